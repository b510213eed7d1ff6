use Rattle.std.proofs.Common.{◌≡◌, take}
use Rattle.basic_types.proofs.arguments.Arguments.copy_of.Given as goal

abbrev pub invariant-loop-value : goal.invariant-loop-value
invariant-loop-value l = l.copies ≡ take l.value-index l.values
