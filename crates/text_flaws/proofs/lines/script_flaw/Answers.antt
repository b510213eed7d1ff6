use Rattle.std.proofs.Common.{arith}
use Rattle.text_flaws.proofs.Passing.{line_passed}
use Rattle.text_flaws.proofs.lines.script_flaw.Goals as goal

pub loop-content-preserved : goal.loop-content-preserved
loop-content-preserved c = record {
  so_far = line_passed c.args.text.now c.loop-content.left.now c.in-Some.content.now c.in-Some.rest.now c.loop-content.number c.loop-content.invariant.so_far c.in-Some.ensures.line;
  room = omega (arith, c.in-Some.ensures.shorter);
}
