use Rattle.std.proofs.Common.{[], ◌∷◌, List, ap, sym, subst}
use Rattle.binding_graph.specs.declared.place.Place.{Place}
use Rattle.prop_bindings.specs.declared.plans.planned.Planned.{Planned}
use Rattle.prop_bindings.specs.Plans.{after}
use Rattle.machine_state.specs.declared.changes.telling.Cause.TheVariants.{Bind}
use Rattle.prop_bindings.specs.Calls.{IsNotBound}
use Rattle.trace_entries.specs.declared.entry.Entry.{Entry}
use Rattle.machine_state.specs.Telling.{AreTold}
use Rattle.machine_state.specs.code.Changing.{accepting_entries}
use Rattle.machine_state.specs.code.Planned.{CanBeTold}
use Rattle.qt_runtime.proofs.Bound.{has-bound, binds-short, lines-lost}
use Rattle.machine_state.proofs.Changed.{bound-ahead}
use Rattle.qt_runtime.proofs.quiet.binding.accept_bind.Goals as goal

pub accept-requires : goal.accept-requires
accept-requires c =
    let store = c.args.world.now.store in
    let can = bound-ahead c.args.meta.now c.args.site c.args.target c.args.sources.now store.tree store.bindings c.in_ok-planned.planned c.requires.agree c.in_ok-planned.ensures.value c.in_ok-planned.ensures.agree in
    let At : Place → Planned → Type 0 = λ first plan. CanBeTold c.args.meta.now store.tree (first ∷ []) plan in
    record { can = subst (λ (first : Place). At first c.planned.result.now) (sym c.target.ensures) (subst (At c.in_ok-planned.planned.reader.target) (sym c.planned.ensures) can) }

pub returns-in-Ok-clause-value : goal.returns-in-Ok-clause-value
returns-in-Ok-clause-value c =
    let w = c.args.world.now in
    let lines = c.in_ok-accept.ensures.ok.lines in
    let Told : Place → Planned → Type 0 = λ first plan. AreTold c.args.meta.now (after plan w.store.tree) 1 Bind first plan.changed lines in
    has-bound c.args.meta.now c.args.site c.args.target c.args.sources.now w c.count_event.new.world c.in_ok-planned.planned c.in_ok-planned.ensures.value lines c.accept.new.trace c.in-Ok.changed c.carry_out_bind.new.tree c.carry_out_bind.new.self
    (subst (Told c.in_ok-planned.planned.reader.target) c.planned.ensures (subst (λ (first : Place). Told first c.planned.result.now) c.target.ensures c.in_ok-accept.ensures.ok.told))
    c.in-Ok.ensures.value c.in_ok-accept.ensures.ok.are c.in-Ok.ensures.objects c.in-Ok.ensures.installed c.count_event.ensures

pub returns-in_err-accept-clause-value : goal.returns-in_err-accept-clause-value
returns-in_err-accept-clause-value c =
    let w = c.args.world.now in
    binds-short c.args.meta.now c.args.site c.args.target c.args.sources.now w _ (accepting_entries w)
    (ap (λ (s : List Entry). record w { trace = s }) c.in_err-accept.ensures.err)
    c.from_residual-in_err-accept.result c.from_residual-in_err-accept.ensures.1

pub returns-in-Err-clause-value : goal.returns-in-Err-clause-value
returns-in-Err-clause-value c = (
  IsNotBound.no_memory,
  lines-lost c.args.world.now _ c.in_ok-accept.ensures.ok.lines c.accept.new.trace c.keep_first.new.self c.len-told.result c.carry_out_bind.new.tree c.carry_out_bind.new.self c.len-told.ensures c.in_ok-accept.ensures.ok.are c.keep_first.ensures c.in-Err.ensures.err.0 c.in-Err.ensures.err.1,
)
