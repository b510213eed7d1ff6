use Rattle.std.proofs.Common.{◌≡◌, ◌<◌, ℕ, length, get_or, slice_get, Some, refl, subst, below_more, arith}
use Rattle.std.proofs.lemmas.List.Elements.{Contains-get_or}
use Rattle.rank_check.specs.declared.entries.NodeClaim.{NodeClaim}
use Rattle.class_sets.specs.Marks.{IsWithin}
use Rattle.rank_check.proofs.Elements.{at_index, same_index, each_number}
use Rattle.rank_check.proofs.destroys.lost_class.Goals as goal

pub offset_bounds-entries-target : goal.offset_bounds-entries-target
offset_bounds-entries-target c =
    let inside : get_or c.args.targets.now c.loop-target.target-index 0 < length c.args.entries.now = c.requires _ (Contains-get_or c.args.targets.now c.loop-target.target-index 0 c.loop-target-test.true) in
    omega arith

pub bounds-entries-target : goal.bounds-entries-target
bounds-entries-target c = c.requires _ (Contains-get_or c.args.targets.now c.loop-target.target-index 0 c.loop-target-test.true)

pub returns-in-Some : goal.returns-in-Some
returns-in-Some c =
    let held = Contains-get_or c.args.targets.now c.loop-target.target-index 0 c.loop-target-test.true in
    record {
      held = held;
      entry = c.index-entries-target.result;
      is = record { stands = at_index c.args.entries.now _ _ (c.requires _ held) c.index-entries-target.is; line = refl };
      holds = rw c.get.ensures at c.in-Some.ensures.0;
      lacks = c.in-Some.ensures.1;
    }

pub loop-target-preserved : goal.loop-target-preserved
loop-target-preserved c =
    let held = Contains-get_or c.args.targets.now c.loop-target.target-index 0 c.loop-target-test.true in
    below_more _ _ c.loop-target.invariant
    (λ y at.
    subst (λ (z : NodeClaim). IsWithin z.destroys c.args.set.now) (same_index c.args.entries.now _ _ y (c.requires _ held) c.index-entries-target.is at)
    (rw c.get.ensures at c.in_default.ensures))

pub returns : goal.returns
returns c = λ b y held at.
    each_number (λ (n : ℕ). (z : NodeClaim) → slice_get c.args.entries.now n ≡ Some z → IsWithin z.destroys c.args.set.now) c.args.targets.now c.loop-target.target-index (omega (arith, c.loop-target-test.false)) c.loop-target.invariant b held y at
