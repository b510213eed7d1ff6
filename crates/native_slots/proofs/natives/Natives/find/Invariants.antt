use Rattle.std.proofs.Common.{◌≤◌}
use Rattle.std.specs.List.{position_or_len}
use Rattle.native_slots.specs.Heads.{is_for}
use Rattle.native_slots.proofs.natives.Natives.find.Given as goal

-- no closure before this one is for the native
abbrev pub invariant-loop-place : goal.invariant-loop-place
invariant-loop-place g l = l.place ≤ position_or_len (λ slot. is_for l.class l.sig slot.head) l.self.slots.items
