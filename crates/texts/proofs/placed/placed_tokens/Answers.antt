use Rattle.std.proofs.Common.{length, ◌<◌, ◌≤◌, ◌-◌, arith}
use Rattle.texts.proofs.Cut.{at_end}
use Rattle.texts.proofs.Placing.{place_token, place_blank, place_done}
use Rattle.texts.proofs.placed.placed_tokens.Goals as goal

pub loop-rest-preserved-in_ok-push-in-Ok : goal.loop-rest-preserved-in_ok-push-in-Ok
loop-rest-preserved-in_ok-push-in-Ok c =
    let text = c.args.text.now in
    let left = c.loop-rest.rest.now in
    let less : length c.in-Ok.after.now < length left = c.in-Ok.ensures.shorter in
    let no_longer : length left ≤ length text = c.loop-rest.invariant.shorter in
    let lt : length text - length left < length text = omega arith in
    rw c.in_ok-push-in-Ok.ensures.ok (place_token c.loop-rest.invariant (length text - length left) (length text - length c.in-Ok.after.now) c.in-Some.token c.in-Ok.after.now lt less (rw c.in-Some.is at c.in-Ok.ensures.cut))

pub loop-rest-preserved : goal.loop-rest-preserved
loop-rest-preserved c = place_blank c.loop-rest.invariant c.in-Ok.after.now c.in-Ok.ensures.shorter (rw c.in_default.is at c.in-Ok.ensures.cut)

pub returns-clause-placed : goal.returns-clause-placed
returns-clause-placed c = place_done c.loop-rest.invariant (at_end c.loop-rest.rest.now c.loop-rest-test.ensures)
