use Rattle.std.proofs.Common.{◌≡◌, ◌∙◌, ◌||◌, ℕ, Bool, true, eqb, inl, inr, ap, sym, subst}
use Rattle.std.proofs.lemmas.Bool.{cases_Bool, eqb-true}
use Rattle.meta_model.specs.Among.{is_among}
use Rattle.binding_graph.specs.declared.place.Place.{Place}
use Rattle.binding_graph.specs.code.Graph.{Touched}
use Rattle.binding_graph.proofs.OneByOne.{among-all, among-next}
use Rattle.binding_graph.proofs.touching.Touching.add_binding.Goals as goal

pub loop-source-init : goal.loop-source-init
loop-source-init c = record {
  kept = c.add.ensures.kept;
  target = c.in_ok-add.ensures.there;
  sources = λ o is. absurd (cc is);
}

pub loop-source-preserved : goal.loop-source-preserved
loop-source-preserved c =
    let target : Place = c.args.binding.now.target in
    record {
      kept = λ o q i. c.add-in-loop-source.ensures.kept o q (c.loop-source.invariant.kept o q i);
      target = c.add-in-loop-source.ensures.kept target.object target c.loop-source.invariant.target;
      sources = λ o is. elim (among-next o c.as_slice-sources.result.now c.loop-source.source-index c.source-item.result c.loop-source-test.true c.source-item.is is) [
        | inl j ↦ c.add-in-loop-source.ensures.kept o target (c.loop-source.invariant.sources o j)
        | inr e ↦ subst (λ (x : ℕ). Touched c.add-in-loop-source.new.self x target) e c.in_ok-add-2.ensures.there
      ];
    }

pub returns-in_err-add-2-clause-kept : goal.returns-in_err-add-2-clause-kept
returns-in_err-add-2-clause-kept c = λ o q i. c.add-in-loop-source.ensures.kept o q (c.loop-source.invariant.kept o q i)

pub returns-clause-touched : goal.returns-clause-touched
returns-clause-touched c = λ o t. elim (cases_Bool (eqb c.args.binding.now.target.object o)) [
  | inl h ↦ subst (λ (x : ℕ). Touched c.loop-source.self x c.args.binding.now.target) (eqb-true c.args.binding.now.target.object o h) c.loop-source.invariant.target
  | inr f ↦
      let among : is_among o c.args.binding.now.sources ≡ true = sym (ap (λ (b : Bool). b || is_among o c.args.binding.now.sources) f) ∙ t in
      c.loop-source.invariant.sources o (ap (is_among o) (among-all c.as_slice-sources.result.now c.loop-source.source-index c.loop-source-test.false ∙ c.as_slice-sources.ensures) ∙ among)
]
