use Rattle.diagnostics.proofs.Tokens.{told_some, told_none}
use Rattle.traces.proofs.Skipping.{skipped, added}
use Rattle.traces.proofs.reading.statements.Statements.of.Goals as goal

pub loop-line-preserved-in_ok-push : goal.loop-line-preserved-in_ok-push
loop-line-preserved-in_ok-push c = added c.args.script.now c.loop-line.left.now c.in-Some.line.now c.in-Some.rest.now c.loop-line.lines.items c.push.new.self.items c.trim_ascii.result c.loop-line.invariant c.in-Some.ensures.line (told_some c.in-Some.line.now c.in_ok-has_tokens.field-0 c.if-branch.true c.in_ok-has_tokens.ensures) c.trim_ascii.ensures.value c.in_ok-push.ensures.items

pub loop-line-preserved : goal.loop-line-preserved
loop-line-preserved c = skipped c.args.script.now c.loop-line.left.now c.in-Some.line.now c.in-Some.rest.now c.loop-line.lines.items c.loop-line.invariant c.in-Some.ensures.line (told_none c.in-Some.line.now c.in_ok-has_tokens.field-0 c.if-branch.false c.in_ok-has_tokens.ensures)
