use Rattle.std.proofs.Common.{inr, refl}
use Rattle.basic_types.specs.declared.qtype.QType.{QType}
use Rattle.meta_model.specs.declared.object.MetaPath.{MetaPath}
use Rattle.class_outlines.specs.declared.outline.Outline.{Outline}
use Rattle.class_outlines.specs.declared.fault.MetaFault.TheVariants as fault
use Rattle.name_resolution.specs.declared.body_resolution.path.Led.{Led}
use Rattle.name_resolution.specs.declared.body_resolution.path.ResolvedTarget.{ResolvedTarget}
use Rattle.name_resolution.specs.code.Bodies.{IsPath, IsObjectPath}
use Rattle.name_resolution.specs.code.Resolving.{scope}
use Rattle.class_outlines.proofs.Loading.{failed}
use Rattle.name_resolution.proofs.BodyPieces.{no_object_path, no_object_class, an_object}
use Rattle.name_resolution.proofs.body_resolution.scope.Scope.resolve_object.Goals as goal

pub returns-in_err-path : goal.returns-in_err-path
returns-in_err-path c =
    let s = scope c.args.self.now in
    failed fault.NoMember ((found : MetaPath) (T : QType) → ¬ IsPath s c.args.path.now found T) ((found : MetaPath) (class : Outline) → ¬ IsObjectPath s c.args.path.now found class)
    (λ (led : Led). IsPath s c.args.path.now led.path led.kind) (λ (target : ResolvedTarget). IsObjectPath s c.args.path.now target.path target.class.now) _ c.in_err-path.ensures
    (no_object_path s _) _ c.from_residual.ensures.0 c.from_residual.ensures.1

pub returns-in_default : goal.returns-in_default
returns-in_default c = inr (c.undeclared.ensures, no_object_class (scope c.args.self.now) _ _ _ c.in_ok-path.ensures c.in_default.ensures)

pub returns : goal.returns
returns c = an_object (scope c.args.self.now) _ _ _ _ _ c.in_ok-path.ensures c.in-Some.ensures
