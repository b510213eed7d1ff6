use Rattle.std.proofs.Common.{◌≡◌, ◌+◌, length, take}
use Rattle.edge_reasons.specs.Order.{in_order}
use Rattle.edge_reasons.proofs.numbered.statement_at.Given as goal

abbrev pub invariant-loop-place : goal.invariant-loop-place
invariant-loop-place l = l.number ≡ length (in_order (take l.place l.body)) + l.left
