use Rattle.class_outlines.proofs.SiteProperties.{refers_not}
use Rattle.meta_objects.proofs.site_references.reference_in.Goals as goal

pub returns-in_default : goal.returns-in_default
returns-in_default c = λ h. c.in_default.ensures h.number h.place h.property h.is

pub returns-then-found : goal.returns-then-found
returns-then-found c = record {
  number = c.in-Some.found.class;
  place = c.in-Some.found.place;
  property = c.in-Some.found.property.now;
  is = c.in-Some.ensures;
  pointer = c.if-found.true;
}

pub returns-else-found : goal.returns-else-found
returns-else-found c = refers_not c.args.outlines.now c.args.class.now c.args.name.now _ _ _ c.in-Some.ensures c.if-found.false
