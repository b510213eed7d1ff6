use Rattle.std.proofs.Common.{◌≡◌, ◌++◌, drop}
use Rattle.std.specs.Option.{option_map}
use Rattle.expressions.specs.Evaluation.{values}
use Rattle.expressions.proofs.evaluation.eval_all.Given as goal

-- the values so far, and those of the expressions that are left, are all
abbrev pub invariant-loop-expression : goal.invariant-loop-expression
invariant-loop-expression g l = option_map (λ vs. l.arguments ++ vs) (values (g.W.World.read l.world) (drop l.expression-index l.expressions)) ≡ values (g.W.World.read l.world) l.expressions
