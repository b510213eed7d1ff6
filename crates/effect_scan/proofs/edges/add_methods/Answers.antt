use Rattle.std.proofs.Common.{refl, length, ap, arith, ◌≤◌}
use Rattle.std.proofs.lemmas.Option.{slice_get_read}
use Rattle.effect_scan.specs.code.Leading.{MethodLeads}
use Rattle.effect_scan.proofs.Adding.{adds_more, adds_all}
use Rattle.effect_scan.proofs.edges.add_methods.Goals as goal

pub loop-place-preserved : goal.loop-place-preserved
loop-place-preserved c = adds_more (MethodLeads c.args.places.now c.args.number) c.args.class.now.methods _ _ _ _ _ (rw c.as_slice-method-items.ensures at (slice_get_read _ _ _ _ refl c.loop-place-test.true c.method-item.is)) c.loop-place.invariant (rw c.get.ensures at c.in_ok-add_method.ensures)

pub returns : goal.returns
returns c =
    let past : length c.args.class.now.methods ≤ c.loop-place.place = omega (arith, ap length c.as_slice-method-items.ensures, c.loop-place-test.false) in
    adds_all (MethodLeads c.args.places.now c.args.number) c.args.class.now.methods _ _ _ past c.loop-place.invariant
