use Rattle.std.proofs.Common.{map}
use Rattle.native_slots.specs.Misfits.{FitsAmong}
use Rattle.native_slots.proofs.Joining.{FromBefore}
use Rattle.native_slots.proofs.natives.Natives.class_fits.Given as goal

-- the answer so far is that for the methods before this one
abbrev pub invariant-loop-method : goal.invariant-loop-method
invariant-loop-method g l = let heads = map (λ slot. slot.head) l.self.slots.items in FitsAmong heads (FromBefore heads l.number l.class l.first l.method) l.answer
