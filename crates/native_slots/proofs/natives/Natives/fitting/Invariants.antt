use Rattle.std.proofs.Common.{map}
use Rattle.native_slots.specs.Misfits.{FitsAmong}
use Rattle.native_slots.proofs.Joining.{OfBefore}
use Rattle.native_slots.proofs.natives.Natives.fitting.Given as goal

-- the answer so far is that for the classes before this one
abbrev pub invariant-loop-number : goal.invariant-loop-number
invariant-loop-number g l = let heads = map (λ slot. slot.head) l.self.slots.items in FitsAmong heads (OfBefore heads l.meta l.number) l.answer
