use Rattle.std.proofs.Common.{List, refl}
use Rattle.std.proofs.lemmas.Option.{slice_get_read}
use Rattle.syntax_trees.specs.declared.syntax.Expr.{Expr}
use Rattle.meta_model.specs.declared.object.MetaPath.{MetaPath}
use Rattle.class_outlines.specs.declared.fault.MetaFault.TheVariants as fault
use Rattle.name_resolution.specs.code.Bodies.{IsExpr, AreExprs}
use Rattle.name_resolution.specs.code.Resolving.{scope}
use Rattle.class_outlines.proofs.Loading.{failed}
use Rattle.name_resolution.proofs.BodyPieces.{exprs_left, exprs_only, exprs_stuck, exprs_end}
use Rattle.name_resolution.proofs.body_resolution.scope.Scope.resolve_exprs.Goals as goal

pub loop-expression-preserved : goal.loop-expression-preserved
loop-expression-preserved c =
    let at = slice_get_read _ _ _ _ refl c.loop-expression-test.true c.expression-item.is in
    record {
      left = exprs_left _ _ _ _ _ _ _ at c.in_ok-expression.ensures c.in_ok-push.ensures.ok c.loop-expression.invariant.left;
      only = exprs_only _ _ _ _ at c.loop-expression.invariant.only;
    }

pub returns-in_err-expression : goal.returns-in_err-expression
returns-in_err-expression c =
    let s = scope c.args.self.now in
    let at = slice_get_read _ _ _ _ refl c.loop-expression-test.true c.expression-item.is in
    failed fault.NoMember ((f : Expr MetaPath) → ¬ IsExpr s c.expression-item.result f) ((fs : List (Expr MetaPath)) → ¬ AreExprs s c.args.expressions.now fs)
    (λ f. IsExpr s c.expression-item.result f) (λ fs. AreExprs s c.args.expressions.now fs) _ c.in_err-expression.ensures
    (λ lacks. exprs_stuck s _ _ _ at c.loop-expression.invariant.only lacks) _ c.from_residual-in_err-expression.ensures.0 c.from_residual-in_err-expression.ensures.1

pub returns : goal.returns
returns c = exprs_end _ _ _ _ c.loop-expression-test.false c.loop-expression.invariant.left
