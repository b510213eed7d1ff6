use Rattle.std.proofs.Common.{arith}
use Rattle.diagnostics.proofs.Gathered.{place_next, none_next, low_next}
use Rattle.diagnostics.proofs.Keyed.{keys_more}
use Rattle.diagnostics.proofs.other_text.reading.read_places.Goals as goal

pub returns-in_default-2 : goal.returns-in_default-2
returns-in_default-2 c = none_next c.loop-line.invariant.so_far c.in-Some.ensures.line (rw c.in_default-2.is at c.in_ok-place.ensures)

pub returns-then-key-last : goal.returns-then-key-last
returns-then-key-last c =
    low_next c.loop-line.invariant.so_far c.in-Some.ensures.line c.in-Some-2.place (rw c.in-Some-2.is at c.in_ok-place.ensures)
    (omega (arith, c.key-key.ensures, c.if-key-last.true))

pub loop-line-preserved : goal.loop-line-preserved
loop-line-preserved c =
    let is = rw c.in-Some-2.is at c.in_ok-place.ensures in record {
      so_far = rw (c.in_ok-push-2.ensures.ok, c.key-key.ensures) (place_next c.loop-line.invariant.so_far c.in-Some.ensures.line c.in-Some-2.place is (omega (arith, c.key-key.ensures, c.if-key-last.false)));
      keys = rw (c.in_ok-push.ensures.ok, c.in_ok-push-2.ensures.ok) (keys_more c.loop-line.keys c.key-key.result c.loop-line.invariant.keys c.if-key-last.false c.in-Some-2.place c.key-key.ensures is.are_place.column.fits);
      room = omega (arith, c.in-Some.ensures.shorter, c.loop-line.invariant.room);
    }
