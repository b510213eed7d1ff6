use Rattle.std.proofs.Common.{inr, refl}
use Rattle.meta_model.specs.declared.object.MetaPath.{MetaPath}
use Rattle.meta_model.specs.declared.object.MetaEndpoints.{MetaEndpoints}
use Rattle.class_outlines.specs.declared.outline.Outline.{Outline}
use Rattle.class_outlines.specs.declared.fault.MetaFault.TheVariants as fault
use Rattle.name_resolution.specs.declared.body_resolution.path.ResolvedTarget.{ResolvedTarget}
use Rattle.name_resolution.specs.code.Bodies.{IsObjectPath, AreEnds}
use Rattle.name_resolution.specs.code.Resolving.{scope}
use Rattle.class_outlines.proofs.Loading.{failed, lacking}
use Rattle.name_resolution.proofs.BodyEnds.{no_sender, no_signal, no_receiver, no_method, no_called}
use Rattle.name_resolution.proofs.body_resolution.scope.Scope.resolve_ends.Goals as goal

pub returns-in_err-sender : goal.returns-in_err-sender
returns-in_err-sender c =
    let s = scope c.args.self.now in
    failed fault.NoMember ((found : MetaPath) (class : Outline) → ¬ IsObjectPath s c.args.ends.now.sender found class) ((y : MetaEndpoints) → ¬ AreEnds s c.args.ends.now y)
    (λ (target : ResolvedTarget). IsObjectPath s c.args.ends.now.sender target.path target.class.now) (λ y. AreEnds s c.args.ends.now y) _ c.in_err-sender.ensures
    (no_sender s _) _ c.from_residual.ensures.0 c.from_residual.ensures.1

pub returns-in_default : goal.returns-in_default
returns-in_default c = lacking fault.NoMember _ _ c.no_method.ensures (no_signal (scope c.args.self.now) _ _ _ c.in_ok-sender.ensures (rw c.deref.ensures at c.in_default.ensures))

pub returns-in_err-receiver : goal.returns-in_err-receiver
returns-in_err-receiver c =
    let s = scope c.args.self.now in
    failed fault.NoMember ((found : MetaPath) (class : Outline) → ¬ IsObjectPath s c.args.ends.now.receiver found class) ((y : MetaEndpoints) → ¬ AreEnds s c.args.ends.now y)
    (λ (target : ResolvedTarget). IsObjectPath s c.args.ends.now.receiver target.path target.class.now) (λ y. AreEnds s c.args.ends.now y) _ c.in_err-receiver.ensures
    (no_receiver s _) _ c.from_residual-in_err-receiver.ensures.0 c.from_residual-in_err-receiver.ensures.1

pub returns-in_default-place_of_signed : goal.returns-in_default-place_of_signed
returns-in_default-place_of_signed c =
    lacking fault.NoMember _ _ c.no_method-in_default-place_of_signed.ensures (no_method (scope c.args.self.now) _ _ _ c.in_ok-receiver.ensures (rw c.deref-3.ensures at c.in_default-place_of_signed.ensures))

pub returns-then-method-le-OBJECT_NAME_CHANGED : goal.returns-then-method-le-OBJECT_NAME_CHANGED
returns-then-method-le-OBJECT_NAME_CHANGED c =
    lacking fault.NoMember _ _ c.no_method-then-method-le-OBJECT_NAME_CHANGED.ensures
    (no_called (scope c.args.self.now) _ _ _ c.in_ok-receiver.ensures _ (rw c.deref-3.ensures at c.in-Some-place_of_signed.ensures) c.if-method-le-OBJECT_NAME_CHANGED.true)
