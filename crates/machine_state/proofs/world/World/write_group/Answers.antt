use Rattle.binding_graph.specs.Bindings.{without_all}
use Rattle.prop_bindings.specs.Plans.{after}
use Rattle.machine_state.specs.Telling.{Grouped, writes_of}
use Rattle.machine_state.specs.code.Changing.{noted}
use Rattle.machine_state.proofs.Bound.{has-written, written-agrees, noted-over}
use Rattle.machine_state.proofs.Changed.{written-ahead}
use Rattle.machine_state.proofs.world.World.write_group.Goals as goal

pub group-requires-clause-can : goal.group-requires-clause-can
group-requires-clause-can c =
    let store = c.args.self.now.store in
    written-ahead c.args.meta.now store.tree store.bindings (writes_of (Grouped c.args.sets.now)) c.in_ok-planned.planned.planned c.requires.agree c.requires.fit c.in_ok-planned.ensures.ok.will

pub returns-clause-value : goal.returns-clause-value
returns-clause-value c =
    let w = c.args.self.now in
    let plan = c.in_ok-planned.planned in
    let lines = c.in_ok-group.ensures.ok.lines in
    has-written c.args.meta.now (Grouped c.args.sets.now) w c.carry_out_group.new.self plan.planned (without_all plan.targets w.store.bindings) c.in_ok-planned.ensures.ok.left c.in_ok-planned.ensures.ok.will lines c.args.depth (noted w) c.carry_out_group.result c.in_ok-group.ensures.ok.told c.carry_out_group.ensures.changed
    (noted-over w c.carry_out_group.new.self (after plan.planned w.store.tree) (without_all plan.targets w.store.bindings) lines c.group.new.trace c.in_ok-group.ensures.ok.are c.carry_out_group.ensures.world)

pub returns-clause-agree : goal.returns-clause-agree
returns-clause-agree c =
    let w = c.args.self.now in
    let plan = c.in_ok-planned.planned in
    let lines = c.in_ok-group.ensures.ok.lines in
    written-agrees c.args.meta.now (Grouped c.args.sets.now) w c.carry_out_group.new.self plan.planned (without_all plan.targets w.store.bindings) c.in_ok-planned.ensures.ok.left c.in_ok-planned.ensures.ok.will lines (noted w lines)
    (noted-over w c.carry_out_group.new.self (after plan.planned w.store.tree) (without_all plan.targets w.store.bindings) lines c.group.new.trace c.in_ok-group.ensures.ok.are c.carry_out_group.ensures.world)
