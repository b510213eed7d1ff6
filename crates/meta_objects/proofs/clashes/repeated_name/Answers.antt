use Rattle.std.specs.Prelude.{Any}
use Rattle.class_outlines.specs.Conditions.{RepeatsInMethod}
use Rattle.class_outlines.specs.DeclaredSites.{RepeatsSite}
use Rattle.std.proofs.Common.{inl}
use Rattle.class_outlines.specs.declared.fault.MetaFault.TheVariants as fault
use Rattle.class_outlines.proofs.Offending.{or_offence}
use Rattle.meta_objects.proofs.clashes.repeated_name.Goals as goal

pub returns-in-Some : goal.returns-in-Some
returns-in-Some c = (inl c.in-Some.ensures.0, c.in-Some.ensures.1)

pub returns-in-None : goal.returns-in-None
returns-in-None c = or_offence (Any RepeatsInMethod c.args.program.now.classes) (RepeatsSite c.args.program.now.sites) c.in-None.ensures c.args.program.now fault.DuplicateMember c.repeated_in_sites.result c.repeated_in_sites.ensures
