use Rattle.std.proofs.Common.{take}
use Rattle.prop_bindings.specs.code.Parts.{AreGiven}
use Rattle.prop_bindings.proofs.writes.give_all.Given as goal

-- what the first ones give
abbrev pub invariant-loop-write : goal.invariant-loop-write
invariant-loop-write l = AreGiven (take l.write-index l.writes) l.targets.items l.values
