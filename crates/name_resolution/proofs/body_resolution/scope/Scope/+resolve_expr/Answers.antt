use Rattle.basic_types.specs.declared.qtype.QType.{QType}
use Rattle.syntax_trees.specs.declared.syntax.Expr.{Expr}
use Rattle.meta_model.specs.declared.object.MetaPath.{MetaPath}
use Rattle.name_resolution.specs.declared.body_resolution.path.Led.{Led}
use Rattle.class_outlines.specs.declared.fault.MetaFault.TheVariants as fault
use Rattle.name_resolution.specs.code.Bodies.{IsPath, IsExpr}
use Rattle.name_resolution.specs.code.Resolving.{scope}
use Rattle.class_outlines.proofs.Loading.{failed}
use Rattle.name_resolution.proofs.BodyPieces.{literal_piece, path_piece, unary_piece, binary_piece, no_path}
use Rattle.name_resolution.proofs.body_resolution.scope.Scope.+resolve_expr.Goals as goal

pub returns-in_err-path-in-Path : goal.returns-in_err-path-in-Path
returns-in_err-path-in-Path t c =
    let s = scope c.args.self.now in
    failed fault.NoMember ((found : MetaPath) (T : QType) → ¬ IsPath s c.in-Path.path found T) ((loaded : Expr MetaPath) → ¬ IsExpr s c.args.expression.now loaded)
    (λ (led : Led). IsPath s c.in-Path.path led.path led.kind) (λ loaded. IsExpr s c.args.expression.now loaded) _ c.in_err-path-in-Path.ensures
    (λ lacks. rw c.in-Path.is (no_path s _ lacks)) _ c.from_residual-in_err-path-in-Path.ensures.0 c.from_residual-in_err-path-in-Path.ensures.1

pub returns-in_ok-value-in-Literal : goal.returns-in_ok-value-in-Literal
returns-in_ok-value-in-Literal t c = rw (c.in-Literal.is, c.in_ok-value-in-Literal.ensures) (literal_piece _ _)

pub returns-in_ok-path-in-Path : goal.returns-in_ok-path-in-Path
returns-in_ok-path-in-Path t c = rw c.in-Path.is (path_piece _ _ _ _ c.in_ok-path-in-Path.ensures)

pub returns-in_ok-operand-in-Unary-2 : goal.returns-in_ok-operand-in-Unary-2
returns-in_ok-operand-in-Unary-2 t c =
    rw (c.in-Unary.is, c.in_ok-operand-in-Unary-2.ensures) (unary_piece _ _ _ _ (rw c.get.ensures at c.in_ok-operand-in-Unary.ensures))

pub returns-in_ok-right-in-Binary-2 : goal.returns-in_ok-right-in-Binary-2
returns-in_ok-right-in-Binary-2 t c =
    rw (c.in-Binary.is, c.in_ok-left-in-Binary-2.ensures, c.in_ok-right-in-Binary-2.ensures)
    (binary_piece _ _ _ _ _ _ (rw c.get-in-Binary.ensures at c.in_ok-left-in-Binary.ensures) (rw c.get-in-Binary-2.ensures at c.in_ok-right-in-Binary.ensures))
