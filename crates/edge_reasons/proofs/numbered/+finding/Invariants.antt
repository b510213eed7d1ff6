use Rattle.std.proofs.Common.{◌≡◌, ◌+◌, length, take}
use Rattle.edge_reasons.specs.Order.{in_order}
use Rattle.edge_reasons.proofs.numbered.+finding.Given as goal

abbrev pub invariant-found_among-loop-statement : goal.invariant-found_among-loop-statement
invariant-found_among-loop-statement l = l.before ≡ length (in_order (take l.statement-index l.body)) + l.left
