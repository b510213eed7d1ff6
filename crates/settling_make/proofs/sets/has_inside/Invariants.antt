use Rattle.std.proofs.Common.{◌≡◌, ℕ, take}
use Rattle.std.specs.List.{Contains}
use Rattle.effect_scan.specs.Rows.{Edge}
use Rattle.settling_make.specs.Components.{number_of}
use Rattle.settling_make.proofs.sets.has_inside.Given as goal

abbrev pub invariant-loop-member : goal.invariant-loop-member
invariant-loop-member l = (a to : ℕ) → Contains (take l.member-index l.members) a → Edge l.scan.rows a to → number_of l.found.numbers to ≡ l.component → ⊥
