use Rattle.std.proofs.Common.{take}
use Rattle.std.specs.List.{AllZip}
use Rattle.rank_graph.specs.Groups.{HasGroup}
use Rattle.rank_graph.proofs.groups.group_of.Given as goal

abbrev pub invariant-loop-row : goal.invariant-loop-row
invariant-loop-row l = AllZip (HasGroup l.group) (take l.row-index l.own) l.all
