use Rattle.class_outlines.specs.Conditions.{LacksAnyType, MisusesReference}
use Rattle.std.proofs.Common.{inl}
use Rattle.std.proofs.lemmas.Result.{IfOk-weaker}
use Rattle.class_outlines.specs.declared.fault.MetaFault.TheVariants as fault
use Rattle.class_outlines.proofs.Offending.{or_offence}
use Rattle.meta_objects.proofs.unfit_types.unfit_type.Goals as goal

pub returns-in-Some : goal.returns-in-Some
returns-in-Some c = (inl c.in-Some.ensures.0, c.in-Some.ensures.1)

pub returns-in-None : goal.returns-in-None
returns-in-None c = IfOk-weaker _ _ _ (λ found h. or_offence (LacksAnyType c.args.outlines.now) (MisusesReference c.args.program.now c.args.outlines.now) c.in-None.ensures c.args.program.now fault.NoType found h) c.misused_reference.ensures
