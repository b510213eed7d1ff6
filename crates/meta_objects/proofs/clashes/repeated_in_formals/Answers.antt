use Rattle.class_outlines.specs.DeclaredSites.{RepeatsFormal}
use Rattle.class_outlines.specs.declared.fault.MetaFault.TheVariants as fault
use Rattle.class_outlines.specs.declared.offence.Declaration.TheVariants as declaration
use Rattle.class_outlines.proofs.Offending.{within, none_further, any_met, none_met, offends}
use Rattle.meta_objects.proofs.clashes.repeated_in_formals.Goals as goal

pub loop-place-preserved : goal.loop-place-preserved
loop-place-preserved c =
    none_further RepeatsFormal c.args.program.now.sites c.as_slice-site-items.result.now c.as_slice-site-items.ensures c.loop-place.place c.site-item.result
    c.loop-place.invariant c.loop-place-test.true c.site-item.is c.in_default.ensures

pub returns-in-Some : goal.returns-in-Some
returns-in-Some c = (
  any_met RepeatsFormal c.args.program.now.sites c.as_slice-site-items.result.now c.as_slice-site-items.ensures c.loop-place.place c.site-item.result
      c.loop-place-test.true c.site-item.is c.in-Some.ensures.0,
  offends c.args.program.now fault.DuplicateMember (declaration.Site c.loop-place.place)
      (within RepeatsFormal c.args.program.now.sites c.as_slice-site-items.result.now c.as_slice-site-items.ensures c.loop-place.place c.loop-place-test.true)
      c.in-Some.breach c.in-Some.ensures.1 c.of.result c.of.ensures,
)

pub returns : goal.returns
returns c =
    none_met RepeatsFormal c.args.program.now.sites c.as_slice-site-items.result.now c.as_slice-site-items.ensures c.loop-place.place c.loop-place.invariant c.loop-place-test.false
