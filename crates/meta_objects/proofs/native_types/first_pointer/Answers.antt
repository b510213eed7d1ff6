use Rattle.std.proofs.Common.{refl}
use Rattle.class_outlines.specs.Natives.{IsPointer}
use Rattle.class_outlines.proofs.Offending.{none_further, any_met, none_met}
use Rattle.meta_objects.proofs.native_types.first_pointer.Goals as goal

pub loop-place-preserved : goal.loop-place-preserved
loop-place-preserved c =
    none_further IsPointer c.args.types.now c.args.types.now refl c.loop-place.place c.index-types-place.result
    c.loop-place.invariant c.loop-place-test.true c.index-types-place.is (λ t. cc)

pub returns-then-kind : goal.returns-then-kind
returns-then-kind c = any_met IsPointer c.args.types.now c.args.types.now refl c.loop-place.place c.index-types-place.result c.loop-place-test.true c.index-types-place.is c.if-kind.true

pub returns : goal.returns
returns c =
    none_met IsPointer c.args.types.now c.args.types.now refl c.loop-place.place c.loop-place.invariant c.loop-place-test.false
