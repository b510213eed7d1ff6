use Rattle.std.specs.Prelude.{Any}
use Rattle.syntax_trees.specs.declared.program.Signal.{Signal}
use Rattle.class_outlines.specs.Conditions.{RepeatsName, RepeatsInSlot}
use Rattle.std.proofs.Common.{inl}
use Rattle.class_outlines.specs.declared.fault.MetaFault.TheVariants as fault
use Rattle.class_outlines.proofs.Offending.{or_offence_in}
use Rattle.meta_objects.proofs.clashes.repeated_in_class.Goals as goal

pub returns-in-Some : goal.returns-in-Some
returns-in-Some c = (inl c.in-Some.ensures.0, c.in-Some.ensures.1)

pub returns-in-None : goal.returns-in-None
returns-in-None c = or_offence_in (Any (λ (signal : Signal). RepeatsName signal.parameters) c.args.class.now.signals) (Any RepeatsInSlot c.args.class.now.slots) c.in-None.ensures c.args.number c.args.class.now fault.DuplicateMember c.repeated_in_slots.result c.repeated_in_slots.ensures
