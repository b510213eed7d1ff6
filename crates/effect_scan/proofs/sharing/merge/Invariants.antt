use Rattle.effect_scan.proofs.Gathered.{HasSame}
use Rattle.std.proofs.Common.{◌++◌, take}
use Rattle.effect_scan.specs.code.Families.{spread}
use Rattle.effect_scan.proofs.sharing.merge.Given as goal

abbrev pub invariant-loop-number : goal.invariant-loop-number
invariant-loop-number l = HasSame (l.initial.row ++ spread l.lists (take l.number-index l.named)) l.row
