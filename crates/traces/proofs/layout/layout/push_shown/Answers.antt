use Rattle.std.proofs.Common.{subst}
use Rattle.traces.proofs.Lines.{dressed, as_it_is}
use Rattle.traces.specs.Lines.{TellsLine}
use Rattle.traces.proofs.layout.layout.push_shown.Goals as goal

pub returns-in_default : goal.returns-in_default
returns-in_default c = as_it_is c.args.colours c.args.line.now c.args.shown.now.items c.extend_from_slice.new.self.items c.extend_from_slice.result (subst (TellsLine c.args.line.now) c.in_default.is c.of.ensures.told) c.extend_from_slice.ensures.items

pub returns : goal.returns
returns c = dressed c.args.colours c.in-Some.told c.args.line.now c.args.shown.now.items c.push_indent.new.shown.items c.push_coloured.new.shown.items c.push_remark.new.shown.items c.in-Some.ensures.told c.in_ok-push_indent.ensures c.in_ok-push_coloured.ensures c.in_ok-push_remark.ensures
