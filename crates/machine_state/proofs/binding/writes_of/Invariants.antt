use Rattle.std.proofs.Common.{◌≡◌, drop, ◌++◌}
use Rattle.machine_state.specs.Telling.{Grouped, writes_of}
use Rattle.machine_state.proofs.binding.writes_of.Given as goal

-- what is found, with what the sets that are left write
abbrev pub invariant-loop-set : goal.invariant-loop-set
invariant-loop-set l = l.writes.items ++ writes_of (Grouped (drop l.set-index l.sets)) ≡ writes_of (Grouped l.sets)
