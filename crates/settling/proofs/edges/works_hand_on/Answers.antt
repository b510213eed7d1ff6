use Rattle.settling.proofs.Ways.{no_works, no_method, slot_works, works_slot, native_works}
use Rattle.settling.proofs.edges.works_hand_on.Goals as goal

pub returns-in_default-method_at-clause-hands : goal.returns-in_default-method_at-clause-hands
returns-in_default-method_at-clause-hands c = λ h.
    no_works c.args.meta.now c.args.from c.args.to (no_method c.args.meta.now c.args.from c.args.to c.in-Method.method c.in-Method.is c.in_default-method_at.ensures.value)

pub returns-in-Slot-clause-hands : goal.returns-in-Slot-clause-hands
returns-in-Slot-clause-hands c = λ h.
    slot_works c.args.meta.now c.args.from c.args.to c.in-Method.method c.in-Method.is _ c.in-Some.ensures.value _ _ _ c.in-Slot.is c.as_slice-in-Slot.ensures c.as_slice.ensures (c.all_hand_on.ensures.0 h)

pub returns-in-Slot-clause-each : goal.returns-in-Slot-clause-each
returns-in-Slot-clause-each c = λ w all.
    c.all_hand_on.ensures.1 (works_slot c.args.meta.now c.args.from c.args.to c.in-Method.method c.in-Method.is _ c.in-Some.ensures.value _ _ _ c.in-Slot.is c.as_slice-in-Slot.ensures c.as_slice.ensures all)

pub returns-in-Native-clause-each : goal.returns-in-Native-clause-each
returns-in-Native-clause-each c = λ w all.
    absurd (native_works c.args.meta.now c.args.from c.args.to c.in-Method.method c.in-Method.is _ c.in-Some.ensures.value _ c.in-Native.is w all)
