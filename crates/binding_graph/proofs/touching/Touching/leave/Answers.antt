use Rattle.std.proofs.Common.{inl, inr}
use Rattle.binding_graph.proofs.touching.Touching.leave.Goals as goal

pub loop-source-init : goal.loop-source-init
loop-source-init c = λ o q i. elim (c.forget.ensures o q i) [ inl j ↦ inl j | inr e ↦ inr e.1 ]

pub loop-source-preserved : goal.loop-source-preserved
loop-source-preserved c = λ o q i. elim (c.loop-source.invariant o q i) [
  | inl j ↦ elim (c.forget-in-loop-source.ensures o q j) [ inl k ↦ inl k | inr e ↦ inr e.1 ]
  | inr e ↦ inr e
]
