use Rattle.std.proofs.Common.{List, ◌++◌, drop}
use Rattle.syntax_trees.specs.declared.syntax.Expr.{Expr}
use Rattle.meta_model.specs.declared.object.MetaPath.{MetaPath}
use Rattle.name_resolution.specs.code.Bodies.{AreExprs}
use Rattle.name_resolution.specs.code.Resolving.{scope}
use Rattle.name_resolution.proofs.body_resolution.scope.Scope.resolve_exprs.Given as goal

-- what is left decides
abbrev pub invariant-loop-expression : goal.invariant-loop-expression
invariant-loop-expression l = record {
  left : (more : List (Expr MetaPath)) → AreExprs (scope l.self) (drop l.expression-index l.expressions) more → AreExprs (scope l.self) l.expressions (l.loaded ++ more);
  only : (all : List (Expr MetaPath)) → AreExprs (scope l.self) l.expressions all → (more : List (Expr MetaPath)) × AreExprs (scope l.self) (drop l.expression-index l.expressions) more;
}
