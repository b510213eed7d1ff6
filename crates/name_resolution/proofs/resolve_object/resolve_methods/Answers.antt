use Rattle.std.proofs.Common.{refl}
use Rattle.std.proofs.lemmas.Option.{slice_get_read}
use Rattle.class_outlines.proofs.Offending.{zip_further, zip_done}
use Rattle.name_resolution.specs.code.Loading.{IsMethodOf}
use Rattle.name_resolution.proofs.resolve_object.resolve_methods.Goals as goal

pub method_over-requires : goal.method_over-requires
method_over-requires c =
    let is = slice_get_read _ _ _ _ refl c.loop-place-test.true c.index-headings-place.is in
    rw (c.inherited_method-inherited.ensures, c.base-base.ensures, c.get.ensures)
    (c.requires c.loop-place.place c.index-headings-place.result (rw c.methods-headings.ensures at is))

pub loop-place-preserved : goal.loop-place-preserved
loop-place-preserved c =
    zip_further (IsMethodOf c.args.outlines.now c.args.works.now) c.args.outline.now.methods c.methods-headings.result.now c.methods-headings.ensures _ _ c.loop-place.place c.index-headings-place.result _ c.loop-place-test.true c.index-headings-place.is
    (rw c.get.ensures at c.in_ok-method.ensures) c.loop-place.invariant c.in_ok-push.ensures.ok

pub returns : goal.returns
returns c =
    zip_done (IsMethodOf c.args.outlines.now c.args.works.now) c.args.outline.now.methods c.methods-headings.result.now c.methods-headings.ensures _ c.loop-place.place c.loop-place-test.false c.loop-place.invariant
