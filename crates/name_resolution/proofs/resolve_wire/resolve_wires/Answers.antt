use Rattle.std.proofs.Common.{Any}
use Rattle.std.specs.List.{AllZip}
use Rattle.name_resolution.specs.code.Wires.{IsWire}
use Rattle.name_resolution.specs.LackedNames.{LacksEnd}
use Rattle.class_outlines.specs.declared.fault.MetaFault.TheVariants as fault
use Rattle.class_outlines.specs.declared.offence.Declaration.TheVariants as declaration
use Rattle.class_outlines.proofs.Loading.{stops_at}
use Rattle.class_outlines.proofs.Offending.{within, any_met, zip_further, zip_done}
use Rattle.name_resolution.proofs.resolve_wire.resolve_wires.Goals as goal

pub loop-place-preserved : goal.loop-place-preserved
loop-place-preserved c =
    zip_further (IsWire c.args.outlines.now) c.args.program.now.wires c.as_slice-wire-items.result.now c.as_slice-wire-items.ensures _ _ c.loop-place.place c.wire-item.result _
    c.loop-place-test.true c.wire-item.is c.in-Ok.ensures c.loop-place.invariant c.in_ok-push-in-Ok.ensures.ok

pub returns-in-Err : goal.returns-in-Err
returns-in-Err c =
    stops_at c.args.program.now fault.NoMember (LacksEnd c.args.outlines.now c.wire-item.result) (Any (LacksEnd c.args.outlines.now) c.args.program.now.wires)
    (declaration.Wire c.loop-place.place) (within (LacksEnd c.args.outlines.now) c.args.program.now.wires c.as_slice-wire-items.result.now c.as_slice-wire-items.ensures c.loop-place.place c.loop-place-test.true)
    c.in-Err.fault c.in-Err.ensures
    (any_met (LacksEnd c.args.outlines.now) c.args.program.now.wires c.as_slice-wire-items.result.now c.as_slice-wire-items.ensures c.loop-place.place c.wire-item.result c.loop-place-test.true c.wire-item.is)
    c.of.result c.of.ensures

pub returns : goal.returns
returns c = zip_done (IsWire c.args.outlines.now) c.args.program.now.wires c.as_slice-wire-items.result.now c.as_slice-wire-items.ensures _ c.loop-place.place c.loop-place-test.false c.loop-place.invariant
