use Rattle.std.specs.Prelude.{Any}
use Rattle.class_outlines.specs.Natives.{HasReferenceNative}
use Rattle.class_outlines.specs.DeclaredSites.{UsesReference}
use Rattle.std.proofs.Common.{inl}
use Rattle.std.proofs.lemmas.Result.{IfOk-weaker}
use Rattle.class_outlines.specs.declared.fault.MetaFault.TheVariants as fault
use Rattle.class_outlines.proofs.Offending.{or_offence}
use Rattle.meta_objects.proofs.unfit_types.misused_reference.Goals as goal

pub returns-in-Some : goal.returns-in-Some
returns-in-Some c = let found = rw c.in-Some.is at c.in_ok-offence.ensures in (inl found.0, found.1)

pub returns-in-None : goal.returns-in-None
returns-in-None c =
    let none = rw c.in-None.is at c.in_ok-offence.ensures in
    IfOk-weaker _ _ _ (λ found h. or_offence (Any (UsesReference c.args.outlines.now) c.args.program.now.sites) (Any (HasReferenceNative c.args.outlines.now) c.args.program.now.classes) none c.args.program.now fault.NoType found h) c.touched_reference.ensures
