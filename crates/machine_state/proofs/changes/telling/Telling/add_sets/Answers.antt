use Rattle.std.proofs.Common.{◌≡◌, ◌+◌, ◌++◌, [], ◌∷◌, List, Option, take, sym, ap, ◌∙◌, subst}
use Rattle.std.specs.Prelude.{IfSome}
use Rattle.std.proofs.lemmas.List.{take_more}
use Rattle.std.proofs.lemmas.List.Elements.{All-from_recursion}
use Rattle.prop_bindings.specs.declared.plans.assignment.Assignment.{Assignment}
use Rattle.binding_graph.specs.declared.place.Place.{Place}
use Rattle.prop_bindings.specs.Plans.{after}
use Rattle.trace_entries.specs.declared.entry.Entry.{Entry}
use Rattle.machine_state.specs.declared.changes.telling.Cause.TheVariants.{Write}
use Rattle.machine_state.specs.Telling.{HasValue, IsSetTold, IsToldWith}
use Rattle.machine_state.specs.code.Planned.{AddsSets}
use Rattle.machine_state.proofs.Told.{each-set, one-set}
use Rattle.machine_state.proofs.changes.telling.Telling.add_sets.Goals.{in-Some+in_ok-line-in-Some, in-None}
use Rattle.machine_state.proofs.changes.telling.Telling.add_sets.Goals as goal

pub line_with-requires-clause-has : goal.line_with-requires-clause-has
line_with-requires-clause-has c =
    let self = c.args.self.now in
    let Has : Place → Type 0 = HasValue self.meta.now self.tree.now in
    let Each : Option Assignment → Type 0 = λ set. IfSome set (λ (a : Assignment). Has a.place) in
    subst Each (sym c.set-item.is ∙ c.in-Some.is) (All-from_recursion Each c.args.sets.now (each-set Has c.args.sets.now c.requires.can.have) c.loop-set.set-index c.set-item.result c.loop-set-test.true)

pub line_with-requires-clause-will_have : goal.line_with-requires-clause-will_have
line_with-requires-clause-will_have c =
    let self = c.args.self.now in
    let Has : Place → Type 0 = HasValue self.meta.now (after self.planned.now self.tree.now) in
    let Each : Option Assignment → Type 0 = λ set. IfSome set (λ (a : Assignment). Has a.place) in
    subst Each (sym c.set-item.is ∙ c.in-Some.is) (All-from_recursion Each c.args.sets.now (each-set Has c.args.sets.now c.requires.can.will_have) c.loop-set.set-index c.set-item.result c.loop-set-test.true)

pub loop-set-preserved : goal.loop-set-preserved
loop-set-preserved c =
    let self = c.args.self.now in
    let sets = c.args.sets.now in
    let new = after self.planned.now self.tree.now in
    let passed = take c.loop-set.set-index sets in
    let set = c.set-item.result in
    let line = c.match-set.line in
    let more : take (c.loop-set.set-index + 1) sets ≡ passed ++ set ∷ [] =
    take_more sets c.loop-set.set-index set c.loop-set-test.true ∙ ap (λ (z : Option Assignment). passed ++ z ∷ []) (sym c.set-item.is) in
    let told : IsSetTold self.meta.now new self.depth set line = elim c.match-set.branch [
      | in-Some+in_ok-line-in-Some w ↦
          subst (λ (z : Option Assignment). IsSetTold self.meta.now new self.depth z line) (sym w.in-Some.is)
          (subst (λ (z : Entry). IsToldWith self.meta.now new self.depth Write w.in-Some.set.place w.in-Some.set.value z) (sym w.line-is) w.in_ok-line-in-Some.ensures)
      | in-None w ↦ subst (λ (z : Option Assignment). IsSetTold self.meta.now new self.depth z line) (sym w.in-None.is) w.line-is
    ] in
    subst (λ (zs : List (Option Assignment)). AddsSets self.meta.now new self.depth zs c.args.trace.now c.push.new.self) (sym more)
    (one-set self.meta.now new self.depth passed set c.args.trace.now c.loop-set.trace c.push.new.self line c.loop-set.invariant told c.in_ok-push.ensures.ok)
