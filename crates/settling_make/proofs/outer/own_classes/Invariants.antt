use Rattle.std.proofs.Common.{take}
use Rattle.effect_scan.specs.Rows.{Edge}
use Rattle.rank_make.specs.Solved.{own_rows}
use Rattle.settling_make.specs.Collected.{IsCollected}
use Rattle.settling_make.proofs.outer.own_classes.Given as goal

abbrev pub invariant-loop-member : goal.invariant-loop-member
invariant-loop-member l = IsCollected (Edge (own_rows l.scan)) (take l.member-index l.members) l.classes
