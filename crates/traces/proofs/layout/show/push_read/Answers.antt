use Rattle.std.proofs.Common.{arith}
use Rattle.traces.proofs.Lines.{read_ended, read_whole}
use Rattle.traces.proofs.layout.show.push_read.Goals as goal

pub returns-in_ok-push : goal.returns-in_ok-push
returns-in_ok-push c = read_ended c.args.colours c.args.read.now c.in-Some.line.now c.in-Some.field-0-1.now c.args.shown.now.items c.push_shown.new.shown.items c.push.new.self.items c.in-Some.ensures.line (omega arith) c.in_ok-push_shown.ensures c.in_ok-push.ensures.items

pub returns-else-line-read : goal.returns-else-line-read
returns-else-line-read c = read_whole c.args.colours c.args.read.now c.in-Some.line.now c.in-Some.field-0-1.now c.args.shown.now.items c.push_shown.new.shown.items c.in-Some.ensures.line (omega arith) c.in_ok-push_shown.ensures
