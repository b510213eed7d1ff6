use Rattle.std.proofs.Common.{arith}
use Rattle.script_lang.proofs.Scripts.{event_next, empty_next}
use Rattle.script_lang.proofs.reader.read_script.Goals as goal

pub loop-line-preserved-in_ok-add-in-Ok-Some : goal.loop-line-preserved-in_ok-add-in-Ok-Some
loop-line-preserved-in_ok-add-in-Ok-Some c = record {
  so_far = rw c.in_ok-add-in-Ok-Some.ensures (event_next c.loop-line.invariant.so_far c.in-Some.ensures.line (rw c.in-Ok-Some.field-0-is at c.in-Ok-Some.ensures));
  room = omega (arith, c.in-Some.ensures.shorter);
}

pub loop-line-preserved : goal.loop-line-preserved
loop-line-preserved c = record {
  so_far = empty_next c.loop-line.invariant.so_far c.in-Some.ensures.line (rw c.in-Ok-None.field-0-is at c.in-Ok-None.ensures);
  room = omega (arith, c.in-Some.ensures.shorter);
}
