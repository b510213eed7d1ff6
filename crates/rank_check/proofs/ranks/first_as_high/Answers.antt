use Rattle.std.proofs.Common.{◌≡◌, ◌<◌, ℕ, length, get_or, slice_get, Some, refl, ap, subst, below_more, arith}
use Rattle.std.proofs.lemmas.List.Elements.{Contains-get_or}
use Rattle.rank_check.specs.declared.entries.NodeClaim.{NodeClaim}
use Rattle.rank_check.proofs.Elements.{at_index, same_index, each_number}
use Rattle.rank_check.proofs.ranks.first_as_high.Goals as goal

pub offset_bounds-entries-target : goal.offset_bounds-entries-target
offset_bounds-entries-target c =
    let inside : get_or c.args.targets.now c.loop-target.target-index 0 < length c.args.entries.now = c.requires _ (Contains-get_or c.args.targets.now c.loop-target.target-index 0 c.loop-target-test.true) in
    omega arith

pub bounds-entries-target : goal.bounds-entries-target
bounds-entries-target c = c.requires _ (Contains-get_or c.args.targets.now c.loop-target.target-index 0 c.loop-target-test.true)

pub returns-then-entry-rank : goal.returns-then-entry-rank
returns-then-entry-rank c =
    let held = Contains-get_or c.args.targets.now c.loop-target.target-index 0 c.loop-target-test.true in
    let rank = ap (λ (z : NodeClaim). z.rank) c.index-entries-target.is in
    record {
      held = held;
      entry = c.index-entries-target.result;
      is = record { stands = at_index c.args.entries.now _ _ (c.requires _ held) c.index-entries-target.is; line = refl };
      high = omega (arith, rank, c.if-entry-rank.true);
    }

pub loop-target-preserved : goal.loop-target-preserved
loop-target-preserved c =
    let held = Contains-get_or c.args.targets.now c.loop-target.target-index 0 c.loop-target-test.true in
    let rank = ap (λ (z : NodeClaim). z.rank) c.index-entries-target.is in
    below_more _ _ c.loop-target.invariant
    (λ y at. subst (λ (z : NodeClaim). z.rank < c.args.rank) (same_index c.args.entries.now _ _ y (c.requires _ held) c.index-entries-target.is at) (omega (arith, rank, c.if-entry-rank.false)))

pub returns : goal.returns
returns c = λ b y held at.
    each_number (λ (n : ℕ). (z : NodeClaim) → slice_get c.args.entries.now n ≡ Some z → z.rank < c.args.rank) c.args.targets.now c.loop-target.target-index (omega (arith, c.loop-target-test.false)) c.loop-target.invariant b held y at
