use Rattle.std.proofs.Common.{ℕ, ◌∙◌, inl, inr, ap, sym}
use Rattle.binding_graph.specs.Bindings.{touches}
use Rattle.binding_graph.proofs.touching.Touching.leave_to.Goals as goal

pub loop-source-init : goal.loop-source-init
loop-source-init c = λ o q i. inl i

pub loop-source-preserved : goal.loop-source-preserved
loop-source-preserved c = λ o q i. elim (c.loop-source.invariant o q i) [
  | inl j ↦ elim (c.forget.ensures o q j) [
    | inl k ↦ inl k
    | inr e ↦ inr (e.1, ap (λ (k : ℕ). touches k c.args.other.now) (sym e.0) ∙ sym c.touches.ensures ∙ c.if-touches.false)
  ]
  | inr e ↦ inr e
]
