use Rattle.std.proofs.Common.{◌≡◌, ◌∙◌, ℕ, true, eqb, refl, ap, subst}
use Rattle.std.proofs.lemmas.Bool.{eq-eqb, eqb-true}
use Rattle.binding_graph.specs.code.Lists.{has, is_key_in}
use Rattle.binding_graph.specs.code.Keys.{key_of}
use Rattle.binding_graph.proofs.Members.{added-here, added-kept}
use Rattle.binding_graph.proofs.touching.Touching.add.Goals as goal

pub returns-in_err-add_place-clause-kept : goal.returns-in_err-add_place-clause-kept
returns-in_err-add_place-clause-kept c = λ o q i. ap (is_key_in (key_of q)) (c.in_err-add_place.ensures.err o) ∙ i

pub returns-clause-kept : goal.returns-clause-kept
returns-clause-kept c = λ o q i.
    added-kept eqb eqb-true (has eqb c.args.self.now.by_object) (has eqb c.add_place.new.lists) c.number.result c.key.result c.in_ok-add_place.ensures.added o (key_of q) i

pub returns-clause-there : goal.returns-clause-there
returns-clause-there c = subst (λ (o : ℕ). has eqb c.add_place.new.lists o (key_of c.args.target.now) ≡ true) c.number.ensures
    (subst (λ (k : ℕ × ℕ). has eqb c.add_place.new.lists c.number.result k ≡ true) c.key.ensures
    (added-here eqb eqb-true (has eqb c.args.self.now.by_object) (has eqb c.add_place.new.lists) c.number.result c.key.result c.in_ok-add_place.ensures.added (eq-eqb c.number.result c.number.result refl)))
