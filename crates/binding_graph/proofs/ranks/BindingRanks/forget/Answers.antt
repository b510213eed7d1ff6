use Rattle.std.proofs.Common.{◌≡◌, ◌∙◌, ℕ, None, inl, inr, ap, sym}
use Rattle.indexmap.specs.IndexMap.{get}
use Rattle.binding_graph.specs.code.Keys.{key_of, same_key}
use Rattle.binding_graph.proofs.Places.{decide_place}
use Rattle.binding_graph.proofs.ranks.BindingRanks.forget.Goals as goal

pub returns-clause-others : goal.returns-clause-others
returns-clause-others c = λ q f. c.swap_remove.ensures.updates.2 (key_of q) (ap (λ (k : ℕ × ℕ). same_key k (key_of q)) c.key.ensures ∙ f)

pub returns-clause-fewer : goal.returns-clause-fewer
returns-clause-fewer c = λ q i is. elim (decide_place c.args.place.now q) [
  | inl e ↦
      let gone : get same_key c.swap_remove.new.self (key_of q) ≡ None = ap (get same_key c.swap_remove.new.self) (ap key_of (sym e) ∙ sym c.key.ensures) ∙ c.swap_remove.ensures.updates.1 in
      absurd (cc (gone, is))
  | inr f ↦ sym (c.swap_remove.ensures.updates.2 (key_of q) (ap (λ (k : ℕ × ℕ). same_key k (key_of q)) c.key.ensures ∙ f)) ∙ is
]
