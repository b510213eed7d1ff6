use Rattle.std.proofs.Common.{refl, sym, subst, arith, List, ℕ, get_or}
use Rattle.std.specs.List.{Contains}
use Rattle.std.proofs.lemmas.List.Elements.{Contains-push}
use Rattle.effect_scan.proofs.Listing.{both_none, both_left, both_right, both_again, both_all}
use Rattle.effect_scan.proofs.added.Added.of_both.Goals as goal

pub loop-i-init : goal.loop-i-init
loop-i-init c = (both_none c.args.first.now c.args.other.now _ c.in_ok-numbers.ensures.items, omega arith, omega arith)

pub loop-i-preserved-then-left-right : goal.loop-i-preserved-then-left-right
loop-i-preserved-then-left-right c = (
  both_left _ _ _ _ _ _ _ c.loop-i-test.true refl c.loop-i.invariant.0 c.in_ok-push.ensures.items,
  omega (arith, c.loop-i-test.true),
  c.loop-i.invariant.2,
)

pub loop-i-preserved-then-left-right-2 : goal.loop-i-preserved-then-left-right-2
loop-i-preserved-then-left-right-2 c = (
  both_again c.args.first.now c.args.other.now _ c.loop-i.i _ _ c.loop-i-test.true (sym c.if-left-right-2.true)
      (subst (λ (l : List ℕ). Contains l (get_or c.args.other.now c.loop-i.j 0)) (sym c.in_ok-push-2.ensures.items) (Contains-push c.loop-i.numbers.items _))
      (both_right _ _ _ _ _ _ _ c.if-j-other.true refl c.loop-i.invariant.0 c.in_ok-push-2.ensures.items),
  omega (arith, c.loop-i-test.true),
  omega (arith, c.if-j-other.true),
)

pub loop-i-smaller : goal.loop-i-smaller
loop-i-smaller c = omega (arith, c.loop-i-test.true, c.if-j-other.true)

pub loop-i-preserved : goal.loop-i-preserved
loop-i-preserved c = (
  both_right _ _ _ _ _ _ _ c.if-j-other.true refl c.loop-i.invariant.0 c.in_ok-push-2.ensures.items,
  c.loop-i.invariant.1,
  omega (arith, c.if-j-other.true),
)

pub returns : goal.returns
returns c = both_all _ _ _ _ _ _ _ c.loop-i.invariant.0 c.in_ok-extend_from_slice.ensures.items c.in_ok-extend_from_slice-2.ensures.items
