use Rattle.std.proofs.Common.{◌≡◌, ◌≤◌, take}
use Rattle.class_lang.specs.Limits.{natives_among}
use Rattle.class_lang.proofs.limits.natives_among.Given as goal

abbrev pub invariant-loop-slot : goal.invariant-loop-slot
invariant-loop-slot l = record {
  counted : l.natives ≡ natives_among (take l.slot-index l.slots);
  within : l.natives ≤ l.slot-index;
}
