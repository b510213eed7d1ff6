use Rattle.std.proofs.Common.{◌≡◌, map, take}
use Rattle.rank_graph.specs.declared.states.NodeMark.TheVariants.{Left}
use Rattle.rank_graph.proofs.states.numbers_of.Given as goal

abbrev pub invariant-loop-mark : goal.invariant-loop-mark
invariant-loop-mark l = map Left l.numbers.items ≡ take l.mark-index l.marks
