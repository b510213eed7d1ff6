use Rattle.std.proofs.Common.{◌≡◌, ap}
use Rattle.binding_graph.specs.declared.place.Place.{Place}
use Rattle.binding_graph.specs.Bindings.{without}
use Rattle.prop_bindings.specs.Changes.{one}
use Rattle.prop_bindings.specs.Plans.{after}
use Rattle.machine_state.specs.Telling.{Alone}
use Rattle.machine_state.specs.code.Changing.{accepting_entries}
use Rattle.machine_state.proofs.Bound.{has-written, written-agrees}
use Rattle.qt_runtime.proofs.Bound.{counted-over}
use Rattle.machine_state.proofs.Changed.{written-ahead}
use Rattle.machine_state.proofs.Trying.{writes-not}
use Rattle.qt_runtime.proofs.quiet.binding.accept_followed.Goals as goal

pub accept-requires : goal.accept-requires
accept-requires c =
    let store = c.args.world.now.store in
    record { can = written-ahead c.args.meta.now store.tree store.bindings (one c.args.place.now c.args.value) c.in_ok-planned.planned.planned c.requires.agree (c.requires.fits, tt) c.in_ok-planned.ensures.ok.will }

pub returns-in_err-planned-clause-value : goal.returns-in_err-planned-clause-value
returns-in_err-planned-clause-value c =
    let w = c.args.world.now in
    writes-not c.args.meta.now 1 (Alone c.args.place.now c.args.value) c.args.place.now c.args.value w (accepting_entries w) c.from_residual.result c.requires.fits c.in_err-planned.ensures.err c.from_residual.ensures.1

pub returns-clause-value : goal.returns-clause-value
returns-clause-value c =
    let w = c.args.world.now in
    let plan = c.in_ok-planned.planned.planned in
    let target = c.in_ok-planned.planned.target in
    let lines = c.in_ok-accept.ensures.ok.lines in
    let cs_are : without target w.store.bindings ≡ without c.args.place.now w.store.bindings = ap (λ (q : Place). without q w.store.bindings) c.in_ok-planned.ensures.ok.target in
    has-written c.args.meta.now (Alone c.args.place.now c.args.value) w c.carry_out.new.self plan (without target w.store.bindings) cs_are c.in_ok-planned.ensures.ok.will lines 1 (accepting_entries w) c.carry_out.result c.in_ok-accept.ensures.ok.told c.carry_out.ensures.changed
    (counted-over w c.count_event.new.world c.carry_out.new.self (after plan) target lines c.accept.new.trace c.in_ok-accept.ensures.ok.are c.count_event.ensures c.carry_out.ensures.world)

pub returns-clause-agree : goal.returns-clause-agree
returns-clause-agree c =
    let w = c.args.world.now in
    let plan = c.in_ok-planned.planned.planned in
    let target = c.in_ok-planned.planned.target in
    let lines = c.in_ok-accept.ensures.ok.lines in
    let cs_are : without target w.store.bindings ≡ without c.args.place.now w.store.bindings = ap (λ (q : Place). without q w.store.bindings) c.in_ok-planned.ensures.ok.target in
    written-agrees c.args.meta.now (Alone c.args.place.now c.args.value) w c.carry_out.new.self plan (without target w.store.bindings) cs_are c.in_ok-planned.ensures.ok.will lines (accepting_entries w lines)
    (counted-over w c.count_event.new.world c.carry_out.new.self (after plan) target lines c.accept.new.trace c.in_ok-accept.ensures.ok.are c.count_event.ensures c.carry_out.ensures.world)
