use Rattle.std.proofs.Common.{List, inr, refl}
use Rattle.syntax_trees.specs.declared.syntax.Expr.{Expr}
use Rattle.syntax_trees.specs.declared.syntax.Stmt.TheVariants.{Call}
use Rattle.meta_model.specs.declared.object.MetaPath.{MetaPath}
use Rattle.meta_model.specs.declared.object.Statement.{Statement}
use Rattle.class_outlines.specs.declared.outline.Outline.{Outline}
use Rattle.class_outlines.specs.declared.fault.MetaFault.TheVariants as fault
use Rattle.name_resolution.specs.declared.body_resolution.path.ResolvedTarget.{ResolvedTarget}
use Rattle.name_resolution.specs.code.Bodies.{IsObjectPath, AreExprs, IsStatementOf}
use Rattle.name_resolution.specs.code.Resolving.{scope}
use Rattle.class_outlines.proofs.Loading.{failed}
use Rattle.name_resolution.proofs.BodyCalls.{no_call_object, no_call_values, no_call_method, no_call, call_piece}
use Rattle.name_resolution.proofs.body_resolution.scope.Scope.resolve_call.Goals as goal

pub returns-in_err-path : goal.returns-in_err-path
returns-in_err-path c =
    let s = scope c.args.self.now in
    failed fault.NoMember ((found : MetaPath) (class : Outline) → ¬ IsObjectPath s c.args.path.now found class) ((y : Statement) → ¬ IsStatementOf s (Call c.args.path.now c.args.name.now c.args.values.now) y)
    (λ (target : ResolvedTarget). IsObjectPath s c.args.path.now target.path target.class.now) (λ y. IsStatementOf s (Call c.args.path.now c.args.name.now c.args.values.now) y) _ c.in_err-path.ensures
    (no_call_object s _ _ _) _ c.from_residual.ensures.0 c.from_residual.ensures.1

pub returns-in_default : goal.returns-in_default
returns-in_default c =
    inr (c.no_call.ensures, no_call_method (scope c.args.self.now) _ _ _ _ _ c.in_ok-path.ensures c.in_default.ensures.value)

pub returns-then-is_signal : goal.returns-then-is_signal
returns-then-is_signal c =
    inr (
      c.no_call-then-is_signal.ensures,
      no_call (scope c.args.self.now) _ _ _ _ _ c.in_ok-path.ensures _ _ c.in-Some.ensures.value
          (c.if-is_signal.ensures.0 refl),
    )

pub returns-in_err-values : goal.returns-in_err-values
returns-in_err-values c =
    let s = scope c.args.self.now in
    failed fault.NoMember ((fs : List (Expr MetaPath)) → ¬ AreExprs s c.args.values.now fs) ((y : Statement) → ¬ IsStatementOf s (Call c.args.path.now c.args.name.now c.args.values.now) y)
    (λ fs. AreExprs s c.args.values.now fs) (λ y. IsStatementOf s (Call c.args.path.now c.args.name.now c.args.values.now) y) _ c.in_err-values.ensures
    (no_call_values s _ _ _) _ c.from_residual-in_err-values.ensures.0 c.from_residual-in_err-values.ensures.1

pub returns : goal.returns
returns c =
    call_piece (scope c.args.self.now) _ _ _ _ _ c.in_ok-path.ensures _ _
    c.in-Some.ensures.value _ (λ signal. let e = c.if-is_signal.ensures.1 signal in absurd (cc)) c.in_ok-values.ensures
