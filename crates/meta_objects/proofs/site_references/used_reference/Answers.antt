use Rattle.class_outlines.specs.DeclaredSites.{by_target, by_source}
use Rattle.class_outlines.proofs.SiteProperties.{uses_none}
use Rattle.meta_objects.proofs.site_references.used_reference.Goals as goal

pub returns-in-Some : goal.returns-in-Some
returns-in-Some c = (by_target c.in-Some.ensures, c.in_ok-breach.ensures)

pub returns-in_ok-breach-in-Some-read_reference : goal.returns-in_ok-breach-in-Some-read_reference
returns-in_ok-breach-in-Some-read_reference c = (by_source c.in-Some-read_reference.ensures, c.in_ok-breach-in-Some-read_reference.ensures)

pub returns-in-None : goal.returns-in-None
returns-in-None c = uses_none c.args.outlines.now c.args.site.now c.in_default.ensures c.in-None.ensures
