use Rattle.std.proofs.Common.{take}
use Rattle.rank_graph.specs.Groups.{HasGroup}
use Rattle.rank_graph.proofs.groups.bits_of.Given as goal

abbrev pub invariant-loop-class : goal.invariant-loop-class
invariant-loop-class l = HasGroup l.group (take l.class-index l.classes) l.bits
