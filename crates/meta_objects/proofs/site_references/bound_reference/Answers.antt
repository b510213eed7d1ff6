use Rattle.class_outlines.specs.declared.fault.MetaFault.TheVariants as fault
use Rattle.class_outlines.specs.declared.offence.Declaration.TheVariants as declaration
use Rattle.class_outlines.specs.DeclaredSites.{UsesReference}
use Rattle.class_outlines.proofs.Offending.{within, none_further, any_met, none_met, offends}
use Rattle.meta_objects.proofs.site_references.bound_reference.Goals as goal

pub loop-place-preserved : goal.loop-place-preserved
loop-place-preserved c =
    none_further (UsesReference c.args.outlines.now) c.args.program.now.sites c.as_slice-site-items.result.now c.as_slice-site-items.ensures c.loop-place.place c.site-item.result
    c.loop-place.invariant c.loop-place-test.true c.site-item.is (rw c.in_default.is at c.in_ok-breach.ensures)

pub returns-in-Some : goal.returns-in-Some
returns-in-Some c =
    let found = rw c.in-Some.is at c.in_ok-breach.ensures in (
      any_met (UsesReference c.args.outlines.now) c.args.program.now.sites c.as_slice-site-items.result.now c.as_slice-site-items.ensures c.loop-place.place c.site-item.result
          c.loop-place-test.true c.site-item.is found.0,
      offends c.args.program.now fault.NoType (declaration.Site c.loop-place.place)
          (within (UsesReference c.args.outlines.now) c.args.program.now.sites c.as_slice-site-items.result.now c.as_slice-site-items.ensures c.loop-place.place c.loop-place-test.true)
          c.in-Some.breach found.1 c.of.result c.of.ensures,
    )

pub returns : goal.returns
returns c =
    none_met (UsesReference c.args.outlines.now) c.args.program.now.sites c.as_slice-site-items.result.now c.as_slice-site-items.ensures c.loop-place.place c.loop-place.invariant c.loop-place-test.false
