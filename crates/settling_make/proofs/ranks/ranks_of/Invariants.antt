use Rattle.settling_make.specs.Ranking.{RankedTo}
use Rattle.settling_make.proofs.ranks.ranks_of.Given as goal

abbrev pub invariant-loop-component : goal.invariant-loop-component
invariant-loop-component l = RankedTo l.scan.nodes l.scan.rows l.found.numbers l.margins l.component l.ranks
