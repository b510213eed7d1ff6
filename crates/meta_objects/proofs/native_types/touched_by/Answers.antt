use Rattle.class_outlines.specs.Natives.{TakesReference, AffectsReference}
use Rattle.std.proofs.Common.{inl}
use Rattle.std.proofs.lemmas.Result.{IfOk-weaker}
use Rattle.class_outlines.specs.declared.fault.MetaFault.TheVariants as fault
use Rattle.class_outlines.proofs.Offending.{or_breach}
use Rattle.meta_objects.proofs.native_types.touched_by.Goals as goal

pub returns-in-Body : goal.returns-in-Body
returns-in-Body c = rw c.in-Body.is (λ none. none)

pub returns-in-Some : goal.returns-in-Some
returns-in-Some c =
    let found = rw c.as_slice-parameters.ensures at (rw c.in-Some.is at c.in_ok-breach-in-Native.ensures) in rw c.in-Native.is (inl found.0, found.1)

pub returns-in-None : goal.returns-in-None
returns-in-None c =
    let none = rw c.as_slice-parameters.ensures at (rw c.in-None.is at c.in_ok-breach-in-Native.ensures) in
    rw c.in-Native.is (IfOk-weaker _ _ _ (λ found h. or_breach (TakesReference c.args.slot.now.parameters) (AffectsReference c.args.outlines.now c.args.class.now c.in-Native.effects) none fault.NoType found h) c.affected_reference.ensures)
