use Rattle.std.proofs.Common.{take}
use Rattle.std.specs.List.{AllZip}
use Rattle.settling_make.specs.Sets.{IsNameOf}
use Rattle.settling_make.proofs.sets.names_of.Given as goal

abbrev pub invariant-loop-member : goal.invariant-loop-member
invariant-loop-member l = AllZip (IsNameOf l.meta) (take l.member-index l.members) l.names
