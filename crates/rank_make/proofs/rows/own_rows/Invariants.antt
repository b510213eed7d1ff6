use Rattle.std.proofs.Common.{◌≡◌, map, take}
use Rattle.rank_make.specs.Solved.{own_of}
use Rattle.rank_make.proofs.rows.own_rows.Given as goal

abbrev pub invariant-loop-node : goal.invariant-loop-node
invariant-loop-node l = l.rows ≡ map (own_of l.scan.closures) (take l.node-index l.node-items)
