use Rattle.std.proofs.Common.{take}
use Rattle.std.specs.List.{AllZip}
use Rattle.rank_check.proofs.Placing.{IsThere}
use Rattle.rank_check.proofs.places.all_places.Given as goal

abbrev pub invariant-loop-node : goal.invariant-loop-node
invariant-loop-node l = AllZip IsThere (take l.node l.places) l.all
