use Rattle.class_outlines.proofs.SiteProperties.{a_property_in, no_property_in}
use Rattle.class_outlines.proofs.site_properties.property_in.Goals as goal

pub returns-in_err-class : goal.returns-in_err-class
returns-in_err-class c = rw c.from_residual.ensures (λ d q x h. c.in_err-class.ensures d h.of_class.at)

pub returns-in_err-place : goal.returns-in_err-place
returns-in_err-place c =
    rw c.from_residual-in_err-place.ensures
    (no_property_in c.args.outlines.now c.args.class.now c.args.name.now c.in_ok-class.class c.in_ok-class.outline.now c.in_ok-class.ensures c.in_err-place.ensures)

pub returns : goal.returns
returns c =
    a_property_in c.args.outlines.now c.args.class.now c.args.name.now c.in_ok-class.class c.in_ok-class.outline.now c.in_ok-class.ensures
    c.in_ok-place.place c.in_ok-place.property.now c.in_ok-place.ensures
