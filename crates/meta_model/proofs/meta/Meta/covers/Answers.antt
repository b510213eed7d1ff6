use Rattle.std.proofs.Common.{refl, sym}
use Rattle.meta_model.specs.Members.{Covers}
use Rattle.meta_model.specs.code.Declared.{CoversFrom}
use Rattle.meta_model.proofs.Declared.{at_base, at_root, covers_inherited}
use Rattle.meta_model.proofs.meta.Meta.covers.Goals as goal

pub classes-preserved : goal.classes-preserved
classes-preserved c =
    let p = c.args.self.now in
    let both = at_base p (λ k. Covers p k c.args.from.now.sig.now c.args.to.now.class c.args.to.now.sig.now c.args.kind) (λ k. CoversFrom p k c.args.from.now.sig.now c.args.to.now.class c.args.to.now.sig.now c.args.kind) (covers_inherited p c.args.from.now.sig.now c.args.to.now.class c.args.to.now.sig.now c.args.kind) c.classes.class c.in-Some.base (sym c.in-Some.ensures.value) (λ from. let t = c.covers_by.ensures.1 from in cc) in
    (λ h. c.classes.invariant.0 (both.0 h), λ h. both.1 (c.classes.invariant.1 h))

pub returns-in-None : goal.returns-in-None
returns-in-None c =
    let p = c.args.self.now in
    (λ t. absurd (cc), λ h. absurd (at_root p (λ k. Covers p k c.args.from.now.sig.now c.args.to.now.class c.args.to.now.sig.now c.args.kind) (λ k. CoversFrom p k c.args.from.now.sig.now c.args.to.now.class c.args.to.now.sig.now c.args.kind) (covers_inherited p c.args.from.now.sig.now c.args.to.now.class c.args.to.now.sig.now c.args.kind) c.classes.class (sym c.in-None.ensures.value) (λ from. let t = c.covers_by.ensures.1 from in cc) (c.classes.invariant.1 h)))

pub returns : goal.returns
returns c =
    let p = c.args.self.now in
    let from = c.classes-test.ensures.0 refl in
    (λ _. c.classes.invariant.0 ((covers_inherited p c.args.from.now.sig.now c.args.to.now.class c.args.to.now.sig.now c.args.kind).here c.classes.class from), λ _. refl)
