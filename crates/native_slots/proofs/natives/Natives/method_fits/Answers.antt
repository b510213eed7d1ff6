use Rattle.std.proofs.Common.{map, sym}
use Rattle.native_slots.proofs.Joining.{differs_alone}
use Rattle.native_slots.proofs.natives.Natives.method_fits.Goals as goal

pub returns-in-Some-difference : goal.returns-in-Some-difference
returns-in-Some-difference g c =
    differs_alone (map (λ slot. slot.head) c.args.self.now.slots.items) c.args.place c.args.class.now c.args.method.now c.in-Native.declared c.in-Native.is
    c.in-Some-difference.list c.in-Some.head.now (sym (rw c.deref.ensures at c.in-Some.ensures)) c.in-Some-difference.ensures
