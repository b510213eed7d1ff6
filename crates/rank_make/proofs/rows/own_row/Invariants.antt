use Rattle.std.proofs.Common.{◌≡◌, take}
use Rattle.rank_make.proofs.rows.own_row.Given as goal

abbrev pub invariant-loop-class : goal.invariant-loop-class
invariant-loop-class l = l.row ≡ take l.class-index l.class-items
