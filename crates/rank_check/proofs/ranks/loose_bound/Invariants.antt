use Rattle.std.proofs.Common.{◌≡◌, ◌<◌, ℕ, slice_get, Some}
use Rattle.certificate_lang.specs.declared.certificate.Line.{Line}
use Rattle.rank_check.proofs.ranks.loose_bound.Given as goal

abbrev pub invariant-loop-place : goal.invariant-loop-place
invariant-loop-place l = (k : ℕ) → k < l.place → (x : Line) → slice_get l.certificate.lines k ≡ Some x → x.rank < l.certificate.bound
