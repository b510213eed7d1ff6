use Rattle.std.proofs.Common.{inr, refl}
use Rattle.syntax_trees.specs.declared.syntax.Expr.{Expr}
use Rattle.syntax_trees.specs.declared.syntax.Stmt.TheVariants.{Set}
use Rattle.meta_model.specs.declared.object.MetaPath.{MetaPath}
use Rattle.meta_model.specs.declared.object.Statement.{Statement}
use Rattle.class_outlines.specs.declared.outline.Outline.{Outline}
use Rattle.class_outlines.specs.declared.fault.MetaFault.TheVariants as fault
use Rattle.name_resolution.specs.declared.body_resolution.path.ResolvedTarget.{ResolvedTarget}
use Rattle.name_resolution.specs.code.Bodies.{IsObjectPath, IsExpr, IsStatementOf}
use Rattle.name_resolution.specs.code.Resolving.{scope}
use Rattle.class_outlines.proofs.Loading.{failed}
use Rattle.name_resolution.proofs.BodyPieces.{no_set_object, no_set_value, no_set_property, set_piece}
use Rattle.name_resolution.proofs.body_resolution.scope.Scope.resolve_set.Goals as goal

pub returns-in_err-path : goal.returns-in_err-path
returns-in_err-path c =
    let s = scope c.args.self.now in
    failed fault.NoMember ((found : MetaPath) (class : Outline) → ¬ IsObjectPath s c.args.path.now found class) ((y : Statement) → ¬ IsStatementOf s (Set c.args.path.now c.args.name.now c.args.value.now) y)
    (λ (target : ResolvedTarget). IsObjectPath s c.args.path.now target.path target.class.now) (λ y. IsStatementOf s (Set c.args.path.now c.args.name.now c.args.value.now) y) _ c.in_err-path.ensures
    (no_set_object s _ _ _) _ c.from_residual.ensures.0 c.from_residual.ensures.1

pub returns-in_default : goal.returns-in_default
returns-in_default c = inr (c.undeclared.ensures, no_set_property (scope c.args.self.now) _ _ _ _ _ c.in_ok-path.ensures c.in_default.ensures)

pub returns-in_err-value : goal.returns-in_err-value
returns-in_err-value c =
    let s = scope c.args.self.now in
    failed fault.NoMember ((f : Expr MetaPath) → ¬ IsExpr s c.args.value.now f) ((y : Statement) → ¬ IsStatementOf s (Set c.args.path.now c.args.name.now c.args.value.now) y)
    (λ f. IsExpr s c.args.value.now f) (λ y. IsStatementOf s (Set c.args.path.now c.args.name.now c.args.value.now) y) _ c.in_err-value.ensures
    (no_set_value s _ _ _) _ c.from_residual-in_err-value.ensures.0 c.from_residual-in_err-value.ensures.1

pub returns : goal.returns
returns c =
    set_piece (scope c.args.self.now) _ _ _ _ _ c.in_ok-path.ensures _ _ _ c.in-Some.ensures c.in_ok-value.ensures
