use Rattle.std.proofs.Common.{◌<◌, length, refl, arith}
use Rattle.std.proofs.lemmas.Option.{slice_get_read, slice_get-get_or}
use Rattle.type_check.specs.Bodies.{IsGivenIn}
use Rattle.type_check.proofs.Properties.{zip_length, relate_more, relate_all, unrelated}
use Rattle.type_check.proofs.scope.BodyScope.are_given.Goals as goal

pub returns-then-declared-given : goal.returns-then-declared-given
returns-then-declared-given c = (λ t. absurd (cc), λ h. absurd (c.if-declared-given.true (zip_length _ _ _ h)))

pub returns-then-not-branch : goal.returns-then-not-branch
returns-then-not-branch c =
    let inside : c.loop-place.place < length c.args.given.now = omega (arith, c.loop-place-test.true, c.if-declared-given.false) in (
      λ t. absurd (cc),
      λ h.
          absurd
          (unrelated (IsGivenIn c.args.self.now.meta.now c.args.self.now.class c.args.self.now.types.now) c.args.declared.now c.args.given.now _ _ _
          (slice_get-get_or _ _ _ c.loop-place-test.true) (slice_get_read _ _ _ _ refl inside c.index-given-place.is)
          (λ r. let t = c.in_ok-is_given.ensures.1 r in cc) h),
    )

pub loop-place-preserved : goal.loop-place-preserved
loop-place-preserved c =
    let inside : c.loop-place.place < length c.args.given.now = omega (arith, c.loop-place-test.true, c.if-declared-given.false) in
    relate_more (IsGivenIn c.args.self.now.meta.now c.args.self.now.class c.args.self.now.types.now) c.args.declared.now c.args.given.now _ _ _ c.loop-place.invariant
    (slice_get-get_or _ _ _ c.loop-place-test.true) (slice_get_read _ _ _ _ refl inside c.index-given-place.is) (c.in_ok-is_given.ensures.0 (cc))

pub returns : goal.returns
returns c = (
  λ t.
      relate_all (IsGivenIn c.args.self.now.meta.now c.args.self.now.class c.args.self.now.types.now) c.args.declared.now c.args.given.now _ c.if-declared-given.false c.loop-place.invariant c.loop-place-test.false,
  λ h. refl,
)
