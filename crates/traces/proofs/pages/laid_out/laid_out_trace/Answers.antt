use Rattle.traces.proofs.Laying.{beside_script}
use Rattle.traces.proofs.pages.laid_out.laid_out_trace.Goals as goal

pub returns : goal.returns
returns c = beside_script c.args.colours c.in_ok-statements.statements c.args.trace.now c.args.script.now (λ shown. shown.items) c.laid_out_beside.result c.in_ok-statements.ensures c.laid_out_beside.ensures
