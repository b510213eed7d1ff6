use Rattle.std.specs.Prelude.{Any}
use Rattle.class_outlines.specs.Natives.{ActsOnReference}
use Rattle.class_outlines.specs.DeclaredSites.{IsReferenceIn}
use Rattle.std.proofs.Common.{inl}
use Rattle.std.proofs.lemmas.Result.{IfOk-weaker}
use Rattle.class_outlines.specs.declared.fault.MetaFault.TheVariants as fault
use Rattle.class_outlines.proofs.Offending.{or_breach}
use Rattle.meta_objects.proofs.native_types.affected_reference.Goals as goal

pub returns-in-Some : goal.returns-in-Some
returns-in-Some c =
    let found = rw c.as_slice-reads.ensures at (rw c.in-Some.is at c.in_ok-breach.ensures) in (inl found.0, found.1)

pub returns-in-None : goal.returns-in-None
returns-in-None c =
    let none = rw c.as_slice-reads.ensures at (rw c.in-None.is at c.in_ok-breach.ensures) in
    IfOk-weaker _ _ _ (λ found h. or_breach (Any (IsReferenceIn c.args.outlines.now c.args.class.now) c.args.effects.now.reads) (ActsOnReference c.args.outlines.now c.args.class.now c.args.effects.now) none fault.NoType found h) c.acted_reference.ensures
