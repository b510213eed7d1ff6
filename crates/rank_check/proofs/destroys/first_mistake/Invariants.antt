use Rattle.rank_check.proofs.Conditions.{HoldFirst}
use Rattle.rank_check.proofs.destroys.first_mistake.Given as goal

abbrev pub invariant-loop-number : goal.invariant-loop-number
invariant-loop-number l = HoldFirst l.meta l.scan.nodes l.scan.rows l.entries l.number
