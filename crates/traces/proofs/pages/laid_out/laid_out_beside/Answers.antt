use Rattle.traces.proofs.Laying.{nothing_yet, one_more, all_lines}
use Rattle.traces.proofs.pages.laid_out.laid_out_beside.Goals as goal

pub loop-line-init : goal.loop-line-init
loop-line-init c = nothing_yet c.args.colours c.args.statements.now c.args.trace.now c.in_ok-shown.shown.items c.in_ok-shown.ensures.items

pub loop-line-preserved : goal.loop-line-preserved
loop-line-preserved c = one_more c.args.colours c.args.statements.now c.args.trace.now c.loop-line.left.now c.in-Some.line.now c.in-Some.rest.now c.loop-line.shown.items c.push_laid_out.new.shown.items c.loop-line.invariant c.in-Some.ensures.line c.in_ok-push_laid_out.ensures

pub returns : goal.returns
returns c = all_lines c.args.colours c.args.statements.now c.args.trace.now c.loop-line.left.now c.loop-line.shown.items c.in_default.ensures.line c.loop-line.invariant
