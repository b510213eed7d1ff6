use Rattle.traces.proofs.Laying.{laid_out_line}
use Rattle.traces.proofs.pages.laid_out.push_laid_out.Goals as goal

pub returns : goal.returns
returns c = laid_out_line c.args.colours c.args.statements.now c.args.line.now c.args.shown.now.items c.push_shown.new.shown.items c.push_behind.new.shown.items c.push.new.self.items c.statement_of.result c.in_ok-push_shown.ensures c.statement_of.ensures c.in_ok-push_behind.ensures c.in_ok-push.ensures.items
