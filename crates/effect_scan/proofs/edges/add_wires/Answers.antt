use Rattle.std.proofs.Common.{ℕ}
use Rattle.std.proofs.lemmas.Option.{slice_get-get_or}
use Rattle.effect_scan.specs.code.Leading.{WireLeads}
use Rattle.effect_scan.proofs.Adding.{adds_more, adds_all}
use Rattle.effect_scan.proofs.edges.add_wires.Goals as goal

pub loop-wire-preserved : goal.loop-wire-preserved
loop-wire-preserved c = adds_more (λ (_ : ℕ). WireLeads c.args.places.now) c.args.wires.now _ _ _ _ _ (slice_get-get_or c.args.wires.now c.loop-wire.wire-index _ c.loop-wire-test.true) c.loop-wire.invariant c.in_ok-add_wire.ensures

pub returns : goal.returns
returns c = adds_all (λ (_ : ℕ). WireLeads c.args.places.now) c.args.wires.now _ _ _ c.loop-wire-test.false c.loop-wire.invariant
