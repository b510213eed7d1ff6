use Rattle.std.proofs.Common.{refl}
use Rattle.std.proofs.lemmas.Option.{slice_get_read}
use Rattle.class_outlines.proofs.Offending.{zip_further, zip_done}
use Rattle.name_resolution.specs.code.Loading.{IsPropertyOf}
use Rattle.name_resolution.proofs.resolve_object.resolve_properties.Goals as goal

pub property_over-requires : goal.property_over-requires
property_over-requires c =
    let is = slice_get_read _ _ _ _ refl c.loop-place-test.true c.index-all-place.is in
    rw (c.inherited_property-inherited.ensures, c.base-base.ensures, c.get.ensures)
    (c.requires c.loop-place.place c.index-all-place.result (rw c.properties-all.ensures at is))

pub loop-place-preserved : goal.loop-place-preserved
loop-place-preserved c =
    zip_further (IsPropertyOf c.args.outlines.now c.args.outline.now) c.args.outline.now.properties c.properties-all.result.now c.properties-all.ensures _ _ c.loop-place.place c.index-all-place.result _ c.loop-place-test.true c.index-all-place.is
    (rw c.get.ensures at c.in_ok-property.ensures) c.loop-place.invariant c.in_ok-push.ensures.ok

pub returns : goal.returns
returns c =
    zip_done (IsPropertyOf c.args.outlines.now c.args.outline.now) c.args.outline.now.properties c.properties-all.result.now c.properties-all.ensures _ c.loop-place.place c.loop-place-test.false c.loop-place.invariant
