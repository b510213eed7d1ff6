use Rattle.std.proofs.Common.{arith}
use Rattle.diagnostics.proofs.Tokens.{told_some, told_none}
use Rattle.explained_commands.proofs.Passing.{empty_passed, event_passed}
use Rattle.explained_commands.proofs.reports.events.event_line.Goals as goal

pub loop-line-preserved-else-number-event : goal.loop-line-preserved-else-number-event
loop-line-preserved-else-number-event c = record {
  so_far = event_passed c.args.script.now c.loop-line.left.now c.in-Some.line.now c.in-Some.rest.now c.loop-line.number c.args.event c.loop-line.invariant.so_far c.in-Some.ensures.line (told_some c.in-Some.line.now c.in_ok-has_tokens.field-0 c.if-branch.true c.in_ok-has_tokens.ensures) c.if-number-event.false;
  room = omega (arith, c.in-Some.ensures.shorter);
}

pub loop-line-preserved : goal.loop-line-preserved
loop-line-preserved c = record {
  so_far = empty_passed c.args.script.now c.loop-line.left.now c.in-Some.line.now c.in-Some.rest.now c.loop-line.number c.args.event c.loop-line.invariant.so_far c.in-Some.ensures.line (told_none c.in-Some.line.now c.in_ok-has_tokens.field-0 c.if-branch.false c.in_ok-has_tokens.ensures);
  room = omega (arith, c.in-Some.ensures.shorter);
}
