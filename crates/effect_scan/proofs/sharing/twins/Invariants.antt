use Rattle.std.proofs.Common.{◌≡◌, ℕ, length, slice_get, Some}
use Rattle.effect_scan.specs.code.Families.{IsTwin}
use Rattle.effect_scan.proofs.sharing.twins.Given as goal

abbrev pub invariant-loop-node : goal.invariant-loop-node
invariant-loop-node l = (length l.twins ≡ l.node) × ((a twin : ℕ) → slice_get l.twins a ≡ Some twin → IsTwin l.rows l.named a twin)
