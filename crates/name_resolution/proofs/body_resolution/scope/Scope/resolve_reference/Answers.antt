use Rattle.std.proofs.Common.{inr, refl}
use Rattle.std.proofs.lemmas.Bool.{not-true, not-false}
use Rattle.basic_types.specs.declared.qtype.QType.{QType}
use Rattle.meta_model.specs.declared.object.MetaPath.{MetaPath}
use Rattle.class_outlines.specs.declared.fault.MetaFault.TheVariants as fault
use Rattle.name_resolution.specs.declared.body_resolution.path.Led.{Led}
use Rattle.name_resolution.specs.code.Bodies.{IsPath, IsReferencePath}
use Rattle.name_resolution.specs.code.Resolving.{scope}
use Rattle.class_outlines.proofs.Loading.{failed}
use Rattle.name_resolution.proofs.BodyReferences.{no_reference, no_pointer}
use Rattle.name_resolution.proofs.body_resolution.scope.Scope.resolve_reference.Goals as goal

pub returns-in_err-path : goal.returns-in_err-path
returns-in_err-path c =
    let s = scope c.args.self.now in
    failed fault.NoMember ((found : MetaPath) (T : QType) → ¬ IsPath s c.args.path.now found T) ((found : MetaPath) → ¬ IsReferencePath s c.args.path.now found)
    (λ (led : Led). IsPath s c.args.path.now led.path led.kind) (λ found. IsReferencePath s c.args.path.now found) _ c.in_err-path.ensures
    (no_reference s _) _ c.from_residual.ensures.0 c.from_residual.ensures.1

pub returns-then-not-kind : goal.returns-then-not-kind
returns-then-not-kind c =
    inr (c.undeclared.ensures, no_pointer (scope c.args.self.now) _ _ _ c.in_ok-path.ensures (not-true _ c.if-not-kind.true))

pub returns : goal.returns
returns c = record { kind = _; leads = c.in_ok-path.ensures; pointer = not-false _ c.if-not-kind.false }
