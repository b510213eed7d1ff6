use Rattle.std.proofs.Common.{◌∙◌, ◌-◌, arith}
use Rattle.traces.proofs.Skipping.{line_at, item_at}
use Rattle.traces.proofs.reading.statements.Statements.line.Goals as goal

pub returns : goal.returns
returns c = line_at c.self.inside.lines.items c.deref.result.now c.args.event c.copied.result c.args.self.now (λ e. absurd (omega (arith, e, c.if-event-eq0.false))) (c.copied.ensures ∙ item_at c.deref.result.now (c.args.event - 1) c.get.result c.get.ensures.lookup) c.deref.ensures.value c.self.view_is
