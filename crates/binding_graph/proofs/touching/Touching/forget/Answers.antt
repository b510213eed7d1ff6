use Rattle.std.proofs.Common.{◌∙◌, eqb, inl, inr, ap, sym}
use Rattle.std.proofs.lemmas.Bool.{eqb-true}
use Rattle.binding_graph.specs.code.Lists.{has, is_key_in}
use Rattle.binding_graph.specs.code.Keys.{key_of}
use Rattle.binding_graph.proofs.Keyed.{key-places}
use Rattle.binding_graph.proofs.Members.{forgotten-kept}
use Rattle.binding_graph.proofs.touching.Touching.forget.Goals as goal

pub returns : goal.returns
returns c = λ o q i. elim (forgotten-kept eqb eqb-true (has eqb c.args.self.now.by_object) (has eqb c.forget_place.new.lists) c.number.result c.key.result c.forget_place.ensures o (key_of q) i) [
  | inl j ↦ inl (ap (is_key_in (key_of q)) (c.drop_empty.ensures o) ∙ j)
  | inr e ↦ inr (sym c.number.ensures ∙ e.0, key-places c.args.target.now q (sym c.key.ensures ∙ e.1))
]
