use Rattle.std.proofs.Common.{List, inr, refl, arith}
use Rattle.syntax_trees.specs.declared.syntax.Expr.{Expr}
use Rattle.syntax_trees.specs.declared.syntax.Stmt.TheVariants.{Emit}
use Rattle.meta_model.specs.declared.object.MetaPath.{MetaPath}
use Rattle.meta_model.specs.declared.object.Statement.{Statement}
use Rattle.class_outlines.specs.declared.fault.MetaFault.TheVariants as fault
use Rattle.name_resolution.specs.code.Bodies.{AreExprs, IsStatementOf}
use Rattle.name_resolution.specs.code.Resolving.{scope}
use Rattle.class_outlines.proofs.Loading.{failed}
use Rattle.name_resolution.proofs.BodyCalls.{no_emit_class, no_emit_values, no_emit_method, no_emit, emit_piece}
use Rattle.name_resolution.proofs.body_resolution.scope.Scope.resolve_emit.Goals.{then-signal-le-OBJECT_NAME_CHANGED-via-then-signal-le-OBJECT_NAME_CHANGED, then-signal-le-OBJECT_NAME_CHANGED-via-else-signal-le-OBJECT_NAME_CHANGED+then-not-is_signal}
use Rattle.name_resolution.proofs.body_resolution.scope.Scope.resolve_emit.Goals as goal

pub returns-in_default : goal.returns-in_default
returns-in_default c = inr (c.undeclared.ensures, no_emit_class (scope c.args.self.now) _ _ c.in_default.ensures)

pub returns-in_default-find_call : goal.returns-in_default-find_call
returns-in_default-find_call c =
    inr (c.no_call.ensures, no_emit_method (scope c.args.self.now) _ _ _ _ c.in-Some.ensures c.in_default-find_call.ensures.value)

pub returns-then-signal-le-OBJECT_NAME_CHANGED : goal.returns-then-signal-le-OBJECT_NAME_CHANGED
returns-then-signal-le-OBJECT_NAME_CHANGED c =
    inr (
      c.no_call-then-signal-le-OBJECT_NAME_CHANGED.ensures,
      no_emit (scope c.args.self.now) _ _ _ _ c.in-Some.ensures _ _ c.in-Some-find_call.ensures.value
          (λ signal more.
          elim c.then-signal-le-OBJECT_NAME_CHANGED.branch [
            | then-signal-le-OBJECT_NAME_CHANGED-via-then-signal-le-OBJECT_NAME_CHANGED w ↦ let below = w.if-signal-le-OBJECT_NAME_CHANGED.true in omega arith
            | then-signal-le-OBJECT_NAME_CHANGED-via-else-signal-le-OBJECT_NAME_CHANGED+then-not-is_signal w ↦ let e = w.if-not-is_signal.ensures.1 signal in absurd (cc)
          ]),
    )

pub returns-in_err-values : goal.returns-in_err-values
returns-in_err-values c =
    let s = scope c.args.self.now in
    failed fault.NoMember ((fs : List (Expr MetaPath)) → ¬ AreExprs s c.args.values.now fs) ((y : Statement) → ¬ IsStatementOf s (Emit c.args.name.now c.args.values.now) y)
    (λ fs. AreExprs s c.args.values.now fs) (λ y. IsStatementOf s (Emit c.args.name.now c.args.values.now) y) _ c.in_err-values.ensures
    (no_emit_values s _ _) _ c.from_residual.ensures.0 c.from_residual.ensures.1

pub returns : goal.returns
returns c =
    let above = c.if-signal-le-OBJECT_NAME_CHANGED.false in
    emit_piece (scope c.args.self.now) _ _ _ _ c.in-Some.ensures _ _ c.in-Some-find_call.ensures.value _
    (c.if-not-is_signal.ensures.0 refl) (omega arith) c.in_ok-values.ensures
