use Rattle.std.proofs.Common.{take}
use Rattle.settling_make.specs.Collected.{LeadsOut, IsCollected}
use Rattle.settling_make.proofs.outer.outer_row.Given as goal

abbrev pub invariant-loop-member : goal.invariant-loop-member
invariant-loop-member l = IsCollected (LeadsOut l.scan.rows l.found.numbers l.component) (take l.member-index l.member-items) l.others
