use Rattle.std.proofs.Common.{◌≡◌, ◌∙◌, inl, inr, ap, sym}
use Rattle.binding_graph.specs.declared.binding.Binding.{Binding}
use Rattle.binding_graph.specs.code.Graph.{bindings_of}
use Rattle.binding_graph.proofs.Graphs.{removed-indexed}
use Rattle.binding_graph.proofs.Keyed.{target-of, without-none}
use Rattle.binding_graph.proofs.graph.Graph.remove_bound.Goals as goal

pub returns-in_default-clause-left : goal.returns-in_default-clause-left
returns-in_default-clause-left c = sym (without-none (bindings_of c.args.self.now) c.args.place.now (sym c.in_default.ensures))

pub returns-in_default-clause-touched : goal.returns-in_default-clause-touched
returns-in_default-clause-touched c = λ o q i. inl i

pub returns-clause-indexed : goal.returns-clause-indexed
returns-clause-indexed c = removed-indexed c.args.self.now _ c.args.place.now c.remove.ensures.left c.requires c.remove.ensures.keyed c.forget.ensures.next c.forget.ensures.others c.forget.ensures.fewer
    (λ m q i. elim (c.unlist.ensures m q i) [
      | inl j ↦ inl j
      | inr e ↦ inr (sym (target-of (bindings_of c.args.self.now) c.args.place.now c.in-Some.reader.now (sym c.in-Some.ensures)) ∙ e.0)
    ])

pub returns-clause-touched : goal.returns-clause-touched
returns-clause-touched c = λ o q i. elim (c.leave.ensures o q i) [
  | inl j ↦ inl j
  | inr e ↦ inr (sym (target-of (bindings_of c.args.self.now) c.args.place.now c.in-Some.reader.now (sym c.in-Some.ensures)) ∙ ap (λ (z : Binding). z.target) (sym c.binding.ensures) ∙ e)
]
