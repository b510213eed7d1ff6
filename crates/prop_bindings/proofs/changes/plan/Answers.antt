use Rattle.std.{proofs.Common.{◌≡◌, ◌++◌, ℕ, List, ap, sym, subst, rules}, specs.List.Sorted.{IsNonDecreasingBy}, proofs.lemmas.List.Sorted.{IsNonDecreasingBy-from_sort_by_key}}
use Rattle.basic_types.specs.declared.value.Value.{Value}
use Rattle.object_tree.specs.declared.object.Object.{Object}
use Rattle.binding_graph.{specs.declared.numbering.Numbered.{Numbered}, specs.declared.place.Place.{Place}, specs.Bindings.{binding_at}, specs.code.Graph.{bindings_in, slot_of}, specs.code.Numbering.{places_of}, specs.code.Orders.{pass}, proofs.Noted.{slots-apart}, proofs.Sorting.{sorted-numbering, sorted-same}}
use Rattle.prop_bindings.{specs.Values.{values_in}, specs.Changes.{AreChanged}, specs.Plans.{assigned}, specs.code.Parts.{IsSoundBySome, StaySound, ahead}, proofs.AssignedValues.{assigned-differs}, proofs.Evaluating.{rest-alike}, proofs.InOrder.{changes-in-slots}}
use Rattle.prop_bindings.proofs.changes.plan.Goals as goal

pub evaluate_all-requires-clause-sound : goal.evaluate_all-requires-clause-sound
evaluate_all-requires-clause-sound c =
    let same : ahead c.reserve.new.self c.args.tree.now ≡ ahead c.args.given c.args.tree.now = ap (λ (es : List ((ℕ × ℕ) × Value)). assigned es c.args.tree.now) c.reserve.ensures.entries in
    subst (λ (xs : List Object). IsSoundBySome xs (bindings_in c.args.installed.now)) (sym same) c.requires.sound

pub returns-clause-values : goal.returns-clause-values
returns-clause-values c = λ q.
    let same : ahead c.reserve.new.self c.args.tree.now ≡ ahead c.args.given c.args.tree.now = ap (λ (es : List ((ℕ × ℕ) × Value)). assigned es c.args.tree.now) c.reserve.ensures.entries in
    subst (λ (xs : List Object). values_in (ahead c.evaluate_all.new.values c.args.tree.now) q ≡ pass (binding_at (bindings_in c.args.installed.now)) c.args.followers.now (values_in xs) q) same (c.in_ok-others.ensures.values q)

pub returns-clause-changed : goal.returns-clause-changed
returns-clause-changed c =
    let same : ahead c.reserve.new.self c.args.tree.now ≡ ahead c.args.given c.args.tree.now = ap (λ (es : List ((ℕ × ℕ) × Value)). assigned es c.args.tree.now) c.reserve.ensures.entries in
    let new : List Object = ahead c.evaluate_all.new.values c.args.tree.now in
    let values : (q : Place) → values_in new q ≡ pass (binding_at (bindings_in c.args.installed.now)) c.args.followers.now (values_in (ahead c.args.given c.args.tree.now)) q = λ q.
    subst (λ (xs : List Object). values_in new q ≡ pass (binding_at (bindings_in c.args.installed.now)) c.args.followers.now (values_in xs) q) same (c.in_ok-others.ensures.values q) in
    let found : List Numbered = c.in_ok-others.others.items in
    let others : List Numbered = c.sort_unstable_by_key.new.self.items in
    let each = c.in_ok-others.ensures.numbered in
    let moved = c.sort_unstable_by_key.ensures.permutation in
    let sorted : IsNonDecreasingBy (λ (f : Numbered). f.number) others = IsNonDecreasingBy-from_sort_by_key (λ (f : Numbered). f.number) _ c.sort_unstable_by_key.ensures.sorted (λ a r q k. search rules) in
    let numbered = sorted-numbering (slot_of c.args.installed.now) (slots-apart c.args.installed.now c.requires.keyed) c.args.followers.now found others each.are c.requires.distinct each.by moved sorted in
    changes-in-slots c.args.tree.now new c.args.targets.now c.args.installed.now c.args.followers.now others c.in_ok-changed.changed c.requires.different c.requires.keyed c.requires.apart numbered (sorted-same c.args.followers.now found others each.are moved) c.requires.others
    (rest-alike c.args.tree.now (ahead c.args.given c.args.tree.now) new (bindings_in c.args.installed.now) c.args.targets.now c.args.followers.now c.requires.given values (assigned-differs c.evaluate_all.new.values.entries c.args.tree.now))
    (subst (λ (fs : List Numbered). AreChanged c.args.tree.now new (c.args.targets.now ++ places_of fs) c.in_ok-changed.changed) c.deref.ensures.value c.in_ok-changed.ensures)

pub returns-clause-objects : goal.returns-clause-objects
returns-clause-objects c = assigned-differs c.evaluate_all.new.values.entries c.args.tree.now

pub returns-clause-sound : goal.returns-clause-sound
returns-clause-sound c =
    let same : ahead c.reserve.new.self c.args.tree.now ≡ ahead c.args.given c.args.tree.now = ap (λ (es : List ((ℕ × ℕ) × Value)). assigned es c.args.tree.now) c.reserve.ensures.entries in
    subst (λ (xs : List Object). StaySound xs (ahead c.evaluate_all.new.values c.args.tree.now) (bindings_in c.args.installed.now)) same c.in_ok-others.ensures.sound
