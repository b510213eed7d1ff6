use Rattle.std.specs.Prelude.{Any}
use Rattle.basic_types.specs.declared.sig.Sig.{Sig}
use Rattle.class_outlines.specs.Natives.{IsPointer}
use Rattle.class_outlines.specs.DeclaredSites.{IsReferenceIn}
use Rattle.std.proofs.Common.{inl}
use Rattle.std.proofs.lemmas.Result.{IfOk-weaker}
use Rattle.class_outlines.specs.declared.fault.MetaFault.TheVariants as fault
use Rattle.class_outlines.proofs.Offending.{or_breach}
use Rattle.meta_objects.proofs.native_types.acted_reference.Goals as goal

pub returns-in-Some : goal.returns-in-Some
returns-in-Some c =
    let found = rw c.as_slice.ensures at (rw c.in-Some.is at c.in_ok-breach.ensures) in (inl found.0, found.1)

pub returns-in-None : goal.returns-in-None
returns-in-None c =
    let none = rw c.as_slice.ensures at (rw c.in-None.is at c.in_ok-breach.ensures) in
    IfOk-weaker _ _ _ (λ found h. or_breach (Any (λ (sig : Sig). Any IsPointer sig.types) c.args.effects.now.emits) (Any (IsReferenceIn c.args.outlines.now c.args.class.now) c.args.effects.now.sets) none fault.NoType found h) (rw c.as_slice-in-None.ensures at c.named_reference.ensures)
