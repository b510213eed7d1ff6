use Rattle.std.proofs.Common.{◌∙◌, inl, inr, sym, subst}
use Rattle.binding_graph.specs.declared.place.Place.{Place}
use Rattle.binding_graph.specs.declared.binding.Binding.{Binding}
use Rattle.binding_graph.specs.Places.{In}
use Rattle.binding_graph.specs.code.Graph.{LosesReader}
use Rattle.binding_graph.proofs.Places.{is_in-false}
use Rattle.binding_graph.proofs.readers.Readers.unlist.Goals as goal

pub loop-source-init : goal.loop-source-init
loop-source-init c = λ m q i. inl i

pub loop-source-preserved : goal.loop-source-preserved
loop-source-preserved c = λ m q i. elim (c.loop-source.invariant m q i) [
  | inl j ↦ elim (c.forget.ensures m q j) [
    | inl k ↦ inl k
    | inr e ↦ inr (e.1, λ kept. is_in-false c.args.kept.now c.source-item.result (sym c.contains.ensures ∙ c.if-contains.false) (subst (λ (p : Place). In p c.args.kept.now) (sym e.0) kept))
  ]
  | inr e ↦ inr e
]

pub returns : goal.returns
returns c = subst (λ (b : Binding). LosesReader c.args.kept.now b.target c.args.self.now c.loop-source.self) c.binding.ensures c.loop-source.invariant
