use Rattle.std.proofs.Common.{◌≡◌, ℕ, take}
use Rattle.std.specs.List.{Contains}
use Rattle.settling_make.specs.Components.{number_of}
use Rattle.settling_make.proofs.sets.leads_inside.Given as goal

abbrev pub invariant-loop-target : goal.invariant-loop-target
invariant-loop-target l = (b : ℕ) → Contains (take l.target-index l.target-items) b → number_of l.found.numbers b ≡ l.component → ⊥
