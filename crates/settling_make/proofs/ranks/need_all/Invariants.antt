use Rattle.std.proofs.Common.{take}
use Rattle.settling_make.specs.Ranking.{AreNeeds}
use Rattle.settling_make.proofs.ranks.need_all.Given as goal

abbrev pub invariant-loop-member : goal.invariant-loop-member
invariant-loop-member l = AreNeeds l.scan.nodes l.scan.rows l.found.numbers l.margins l.component (take l.member-index l.members) l.fn.ranks l.ranks
