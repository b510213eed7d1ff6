use Rattle.std.proofs.Common.{◌≡◌, ◌∙◌, ◌++◌, ◌∷◌, ◌+◌, [], Some, cond, take, ℕ, List, ap, sym, subst}
use Rattle.std.specs.Option.{is_some}
use Rattle.std.proofs.lemmas.List.{take_more}
use Rattle.indexmap.specs.IndexMap.{get}
use Rattle.basic_types.specs.declared.value.Value.{Value}
use Rattle.binding_graph.specs.declared.place.Place.{Place}
use Rattle.prop_bindings.specs.declared.plans.assignment.Assignment.{Assignment}
use Rattle.binding_graph.specs.code.Keys.{key_of, same_key}
use Rattle.prop_bindings.specs.code.Parts.{AreGiven}
use Rattle.prop_bindings.proofs.Giving.{given-again, given-new}
use Rattle.prop_bindings.proofs.writes.give_all.Goals as goal

pub loop-write-preserved-then-is_some : goal.loop-write-preserved-then-is_some
loop-write-preserved-then-is_some c =
    let a : Assignment = c.write-item.result in
    let front : List Assignment = take c.loop-write.write-index c.args.writes.now in
    let whole : take (c.loop-write.write-index + 1) c.args.writes.now ≡ front ++ a ∷ [] = take_more c.args.writes.now c.loop-write.write-index a c.loop-write-test.true ∙ ap (λ (b : Assignment). front ++ b ∷ []) (sym c.write-item.is) in
    let there : is_some (get same_key c.loop-write.values (key_of a.place)) ≡ c.is_some.result = sym (c.is_some.ensures ∙ ap is_some c.in_ok-earlier.ensures.old ∙ ap (λ (k : ℕ × ℕ). is_some (get same_key c.loop-write.values k)) c.key.ensures) in
    given-again c.loop-write.values c.insert.new.self front _ c.loop-write.targets.items a c.key.result whole c.key.ensures c.loop-write.invariant
    (λ k. c.in_ok-earlier.ensures.updates.0 k ∙ ap (λ (v : Value). cond (same_key c.key.result k) (Some v) (get same_key c.loop-write.values k)) c.in_ok-value.ensures)
    (there ∙ c.if-is_some.true)

pub loop-write-preserved : goal.loop-write-preserved
loop-write-preserved c =
    let a : Assignment = c.write-item.result in
    let front : List Assignment = take c.loop-write.write-index c.args.writes.now in
    let whole : take (c.loop-write.write-index + 1) c.args.writes.now ≡ front ++ a ∷ [] = take_more c.args.writes.now c.loop-write.write-index a c.loop-write-test.true ∙ ap (λ (b : Assignment). front ++ b ∷ []) (sym c.write-item.is) in
    let there : is_some (get same_key c.loop-write.values (key_of a.place)) ≡ c.is_some.result = sym (c.is_some.ensures ∙ ap is_some c.in_ok-earlier.ensures.old ∙ ap (λ (k : ℕ × ℕ). is_some (get same_key c.loop-write.values k)) c.key.ensures) in
    subst (λ (ps : List Place). AreGiven (take (c.loop-write.write-index + 1) c.args.writes.now) ps c.insert.new.self) (sym c.in_ok-push.ensures.items)
    (given-new c.loop-write.values c.insert.new.self front _ c.loop-write.targets.items a c.key.result whole c.key.ensures c.loop-write.invariant
    (λ k. c.in_ok-earlier.ensures.updates.0 k ∙ ap (λ (v : Value). cond (same_key c.key.result k) (Some v) (get same_key c.loop-write.values k)) c.in_ok-value.ensures)
    (there ∙ c.if-is_some.false))
