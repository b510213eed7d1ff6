use Rattle.std.proofs.Common.{◌+◌, drop, arith}
use Rattle.expressions.specs.Evaluation.{values}
use Rattle.expressions.proofs.Evaluating.{next_value, no_values, from_next, fails_with}
use Rattle.expressions.proofs.evaluation.eval_all.Goals as goal

pub returns-in_err-value : goal.returns-in_err-value
returns-in_err-value g c =
    let read = g.W.World.read c.args.world.now in
    let i = c.loop-expression.expression-index in
    let at = from_next c.args.expressions.now i c.expression-item.result (omega arith) c.expression-item.is in
    let all = rw at at c.loop-expression.invariant in
    rw (fails_with c.from_residual.result c.in_err-value.field-0.0 c.from_residual.ensures.1) (no_values read (values read c.args.expressions.now) c.loop-expression.arguments c.expression-item.result (drop (c.loop-expression.expression-index + 1) c.args.expressions.now) c.in_err-value.field-0.0 all c.in_err-value.ensures)

pub loop-expression-preserved : goal.loop-expression-preserved
loop-expression-preserved g c =
    let read = g.W.World.read c.args.world.now in
    let i = c.loop-expression.expression-index in
    let at = from_next c.args.expressions.now i c.expression-item.result (omega arith) c.expression-item.is in
    let all = rw at at c.loop-expression.invariant in
    rw c.in_ok-push.ensures.ok (next_value read (values read c.args.expressions.now) c.loop-expression.arguments c.expression-item.result (drop (c.loop-expression.expression-index + 1) c.args.expressions.now) c.in_ok-value.value c.in_ok-value.ensures all)
