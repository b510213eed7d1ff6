use Rattle.std.proofs.Common.{refl, sym}
use Rattle.meta_model.specs.Members.{Owns}
use Rattle.meta_model.specs.code.Declared.{OwnsFrom}
use Rattle.meta_model.proofs.Declared.{at_base, at_root, owns_inherited}
use Rattle.meta_model.proofs.meta.Meta.owns.Goals as goal

pub classes-preserved : goal.classes-preserved
classes-preserved c =
    let p = c.args.self.now in
    let both = at_base p (λ k. Owns p k c.args.child) (λ k. OwnsFrom p k c.args.child) (owns_inherited p c.args.child) c.classes.class c.in-Some.base (sym c.in-Some.ensures.value) (λ from. let t = c.owns_by.ensures.1 from in cc) in
    (λ h. c.classes.invariant.0 (both.0 h), λ h. both.1 (c.classes.invariant.1 h))

pub returns-in-None : goal.returns-in-None
returns-in-None c =
    let p = c.args.self.now in
    (λ t. absurd (cc), λ h. absurd (at_root p (λ k. Owns p k c.args.child) (λ k. OwnsFrom p k c.args.child) (owns_inherited p c.args.child) c.classes.class (sym c.in-None.ensures.value) (λ from. let t = c.owns_by.ensures.1 from in cc) (c.classes.invariant.1 h)))

pub returns : goal.returns
returns c =
    let p = c.args.self.now in
    let from = c.classes-test.ensures.0 refl in
    (λ _. c.classes.invariant.0 ((owns_inherited p c.args.child).here c.classes.class from), λ _. refl)
