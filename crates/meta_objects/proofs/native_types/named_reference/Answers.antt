use Rattle.std.proofs.Common.{refl}
use Rattle.class_outlines.specs.DeclaredSites.{IsReferenceIn}
use Rattle.class_outlines.proofs.Offending.{none_further, any_met, none_met}
use Rattle.meta_objects.proofs.native_types.named_reference.Goals as goal

pub loop-place-preserved : goal.loop-place-preserved
loop-place-preserved c =
    none_further (IsReferenceIn c.args.outlines.now c.args.class.now) c.args.names.now c.args.names.now refl c.loop-place.place c.index-names-place.result
    c.loop-place.invariant c.loop-place-test.true c.index-names-place.is c.in_default.ensures

pub returns-in-Some : goal.returns-in-Some
returns-in-Some c = (any_met (IsReferenceIn c.args.outlines.now c.args.class.now) c.args.names.now c.args.names.now refl c.loop-place.place c.index-names-place.result c.loop-place-test.true c.index-names-place.is c.in-Some.ensures, rw c.reference.ensures refl)

pub returns : goal.returns
returns c =
    none_met (IsReferenceIn c.args.outlines.now c.args.class.now) c.args.names.now c.args.names.now refl c.loop-place.place c.loop-place.invariant c.loop-place-test.false
