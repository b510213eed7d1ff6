use Rattle.std.proofs.Common.{take}
use Rattle.effect_scan.specs.code.Relations.{AreListed}
use Rattle.effect_scan.proofs.closure.list_rows.Given as goal

abbrev pub invariant-loop-set : goal.invariant-loop-set
invariant-loop-set l = AreListed (take l.set-index l.relation) l.lists
