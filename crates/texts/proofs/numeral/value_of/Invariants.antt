use Rattle.std.proofs.Common.{◌≡◌, ◌≤◌, drop}
use Rattle.texts.specs.Numerals.{value_from, value_of}
use Rattle.texts.proofs.numeral.value_of.Given as goal

abbrev pub invariant-loop-digit : goal.invariant-loop-digit
invariant-loop-digit l = record {
  so_far : value_of l.digits ≡ value_from l.value (drop l.digit-index l.digits);
  fits : l.value ≤ l.most;
}
