use Rattle.settling_make.proofs.Flooring.{NeedTo}
use Rattle.settling_make.proofs.ranks.need_of.Given as goal

abbrev pub invariant-loop-target : goal.invariant-loop-target
invariant-loop-target l = NeedTo l.scan.nodes l.scan.rows l.found.numbers l.ranks l.member l.least l.target-items l.target-index l.need
