use Rattle.std.proofs.Common.{length, ◌-◌, ◌≡◌, ◌≤◌, ℕ, ◌<◌, get_or, true}
use Rattle.basic_types.specs.Name.{is_name_byte}
use Rattle.signatures.proofs.scanner.split_word.Given as goal

abbrev pub invariant-loop-len : goal.invariant-loop-len
invariant-loop-len l = record {
  within : l.len ≤ length l.bytes;
  each : (k : ℕ) → k < l.len → is_name_byte (get_or l.bytes k 0) ≡ true;
}

abbrev pub decreases-loop-len : goal.decreases-loop-len
decreases-loop-len l = length l.bytes - l.len
