use Rattle.std.proofs.Common.{ℕ, refl, sym, subst}
use Rattle.meta_model.specs.Members.{Below, under}
use Rattle.meta_model.proofs.OneAnswer.{below_base, below_none, below_itself, below_absent}
use Rattle.meta_model.proofs.meta.Meta.inherits.Goals as goal

pub loop-below-preserved : goal.loop-below-preserved
loop-below-preserved c = (
  λ h. c.loop-below.invariant.0 (under (sym c.in-Some.ensures.value) h),
  λ h. below_base _ _ _ _ (sym c.in-Some.ensures.value) c.loop-below-test.true (c.loop-below.invariant.1 h),
)

pub returns-in-None : goal.returns-in-None
returns-in-None c = (λ t. absurd (cc), λ h. absurd (below_none _ _ _ (sym c.in-None.ensures.value) c.loop-below-test.true (c.loop-below.invariant.1 h)))

pub returns-in-Some-object : goal.returns-in-Some-object
returns-in-Some-object c = (
  λ t. c.loop-below.invariant.0 (subst (λ (k : ℕ). Below c.args.self.now c.loop-below.below k) c.loop-below-test.false (below_itself _ _ (sym c.in-Some-object.ensures.value))),
  λ h. refl,
)

pub returns-in-None-object : goal.returns-in-None-object
returns-in-None-object c = (λ t. absurd (cc), λ h. absurd (below_absent _ _ _ (sym c.in-None-object.ensures.value) (c.loop-below.invariant.1 h)))
