use Rattle.std.proofs.Common.{◌≡◌, ◌++◌, map, take}
use Rattle.effect_scan.specs.Rows.{pairs_from}
use Rattle.effect_scan.proofs.scan.Scan.edges.Given as goal

abbrev pub invariant-loop-from : goal.invariant-loop-from
invariant-loop-from l = l.edges ≡ pairs_from 0 (take l.from l.self.rows)

abbrev pub invariant-loop-to : goal.invariant-loop-to
invariant-loop-to l = l.edges ≡ l.initial.edges ++ map (λ b. (l.from, b)) (take l.to-index l.to-items)
