use Rattle.class_outlines.proofs.SiteProperties.{reads_not}
use Rattle.meta_objects.proofs.site_references.reference_at.Goals as goal

pub returns-in_default : goal.returns-in_default
returns-in_default c = λ r. c.in_default.ensures r.source r.property r.read

pub returns-then-found : goal.returns-then-found
returns-then-found c = record { source = c.in-Some.found.source; property = c.in-Some.found.property.now; read = c.in-Some.ensures; pointer = c.if-found.true }

pub returns-else-found : goal.returns-else-found
returns-else-found c = reads_not c.args.outlines.now c.args.site.now c.args.path.now _ _ c.in-Some.ensures c.if-found.false
