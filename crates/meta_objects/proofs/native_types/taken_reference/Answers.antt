use Rattle.std.proofs.Common.{refl}
use Rattle.syntax_trees.specs.declared.program.Parameter.{Parameter}
use Rattle.class_outlines.specs.Natives.{IsPointer}
use Rattle.class_outlines.proofs.Offending.{none_further, any_met, none_met}
use Rattle.meta_objects.proofs.native_types.taken_reference.Goals as goal

pub loop-place-preserved : goal.loop-place-preserved
loop-place-preserved c =
    none_further (λ (p : Parameter). IsPointer p.kind) c.args.parameters.now c.args.parameters.now refl c.loop-place.place c.index-parameters-place.result
    c.loop-place.invariant c.loop-place-test.true c.index-parameters-place.is (λ t. cc)

pub returns-then-parameter : goal.returns-then-parameter
returns-then-parameter c = (any_met (λ (p : Parameter). IsPointer p.kind) c.args.parameters.now c.args.parameters.now refl c.loop-place.place c.index-parameters-place.result c.loop-place-test.true c.index-parameters-place.is c.if-parameter.true, rw c.reference.ensures refl)

pub returns : goal.returns
returns c =
    none_met (λ (p : Parameter). IsPointer p.kind) c.args.parameters.now c.args.parameters.now refl c.loop-place.place c.loop-place.invariant c.loop-place-test.false
