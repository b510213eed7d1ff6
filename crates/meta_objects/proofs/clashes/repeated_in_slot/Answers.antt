use Rattle.class_outlines.specs.Conditions.{RepeatsName}
use Rattle.class_outlines.specs.Natives.{RepeatsEffectIn}
use Rattle.std.proofs.Common.{inl}
use Rattle.class_outlines.specs.declared.fault.MetaFault.TheVariants as fault
use Rattle.class_outlines.proofs.Offending.{or_breach}
use Rattle.meta_objects.proofs.clashes.repeated_in_slot.Goals as goal

pub returns-in-Some : goal.returns-in-Some
returns-in-Some c = let found = rw c.as_slice-parameters.ensures at c.in-Some.ensures in (inl found.0, found.1)

pub returns-in-None : goal.returns-in-None
returns-in-None c =
    or_breach (RepeatsName c.args.slot.now.parameters) (RepeatsEffectIn c.args.slot.now.work) (rw c.as_slice-parameters.ensures at c.in-None.ensures) fault.DuplicateMember c.repeated_effect_in.result c.repeated_effect_in.ensures
