use Rattle.std.proofs.Common.{◌≡◌, map, take}
use Rattle.settling_make.specs.declared.groups.SearchState.TheVariants.{Done}
use Rattle.settling_make.proofs.components.numbers_of.Given as goal

abbrev pub invariant-loop-state : goal.invariant-loop-state
invariant-loop-state l = map Done l.numbers.items ≡ take l.state-index l.states
