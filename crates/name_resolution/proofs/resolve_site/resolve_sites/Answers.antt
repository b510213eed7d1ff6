use Rattle.std.proofs.Common.{Any}
use Rattle.std.specs.List.{AllZip}
use Rattle.name_resolution.specs.code.Sites.{IsSite}
use Rattle.name_resolution.specs.LackedNames.{LacksInSite}
use Rattle.class_outlines.specs.declared.fault.MetaFault.TheVariants as fault
use Rattle.class_outlines.specs.declared.offence.Declaration.TheVariants as declaration
use Rattle.class_outlines.proofs.Loading.{stops_at}
use Rattle.class_outlines.proofs.Offending.{within, any_met, zip_further, zip_done}
use Rattle.name_resolution.proofs.resolve_site.resolve_sites.Goals as goal

pub loop-place-preserved : goal.loop-place-preserved
loop-place-preserved c =
    zip_further (IsSite c.args.outlines.now) c.args.program.now.sites c.as_slice-site-items.result.now c.as_slice-site-items.ensures _ _ c.loop-place.place c.site-item.result _
    c.loop-place-test.true c.site-item.is c.in-Ok.ensures c.loop-place.invariant c.in_ok-push-in-Ok.ensures.ok

pub returns-in-Err : goal.returns-in-Err
returns-in-Err c =
    stops_at c.args.program.now fault.NoMember (LacksInSite c.args.outlines.now c.site-item.result) (Any (LacksInSite c.args.outlines.now) c.args.program.now.sites)
    (declaration.Site c.loop-place.place) (within (LacksInSite c.args.outlines.now) c.args.program.now.sites c.as_slice-site-items.result.now c.as_slice-site-items.ensures c.loop-place.place c.loop-place-test.true)
    c.in-Err.fault c.in-Err.ensures
    (any_met (LacksInSite c.args.outlines.now) c.args.program.now.sites c.as_slice-site-items.result.now c.as_slice-site-items.ensures c.loop-place.place c.site-item.result c.loop-place-test.true c.site-item.is)
    c.of.result c.of.ensures

pub returns : goal.returns
returns c = zip_done (IsSite c.args.outlines.now) c.args.program.now.sites c.as_slice-site-items.result.now c.as_slice-site-items.ensures _ c.loop-place.place c.loop-place-test.false c.loop-place.invariant
