use Rattle.std.proofs.Common.{◌≤◌, ◌<◌, length, get_or, refl, arith}
use Rattle.std.proofs.lemmas.List.Elements.{Contains-get_or}
use Rattle.program_commands.proofs.Searching.{search_begun, edge_followed, node_followed, no_way, node_read, target_inside}
use Rattle.program_commands.proofs.ways.way_to.Goals as goal

pub loop-at-init : goal.loop-at-init
loop-at-init c = record {
  so = search_begun c.args.rows.now c.args.closed c.args.ends.now c.args.from _ _ c.new-found.ensures c.in_ok-push.ensures.ok c.requires.closed;
  followed = λ k b low. absurd (omega (arith, low));
  low = omega arith;
}

pub loop-target-init : goal.loop-target-init
loop-target-init c = record {
  so = c.loop-at.invariant.so;
  followed = c.loop-at.invariant.followed;
  low = omega (arith, c.loop-at-test.true, c.len.ensures);
  node_is = node_read c.as_slice.result.now c.loop-at.search.found c.loop-at.at c.as_slice.ensures;
  followed_some = λ j low. absurd (omega (arith, low));
}

pub meets-requires-clause-passed : goal.meets-requires-clause-passed
meets-requires-clause-passed c =
    let inside = target_inside c.args.rows.now c.requires.inside _ c.targets_at-target-items.result.now c.targets_at-target-items.ensures c.loop-target.target-index c.loop-target-test.true in
    let count = c.loop-target.invariant.so.count in
    omega (arith, inside, count)

pub meets-requires-clause-ends : goal.meets-requires-clause-ends
meets-requires-clause-ends c =
    let inside = target_inside c.args.rows.now c.requires.inside _ c.targets_at-target-items.result.now c.targets_at-target-items.ensures c.loop-target.target-index c.loop-target-test.true in
    let count = c.requires.ends in
    omega (arith, inside, count)

pub loop-target-preserved : goal.loop-target-preserved
loop-target-preserved c =
    let items = c.targets_at-target-items.result.now in
    let inside = target_inside c.args.rows.now c.requires.inside _ items c.targets_at-target-items.ensures c.loop-target.target-index c.loop-target-test.true in
    edge_followed c.args.rows.now c.args.closed c.args.ends.now c.args.from c.loop-target.search c.meets.new.self c.loop-at.at _ items c.loop-target.target-index (get_or items c.loop-target.target-index 0) c.loop-target.invariant c.targets_at-target-items.ensures
    (Contains-get_or items c.loop-target.target-index 0 c.loop-target-test.true) refl inside (rw c.if-branch.false at c.in_ok-meets.ensures)

pub loop-at-preserved : goal.loop-at-preserved
loop-at-preserved c =
    let past : length c.targets_at-target-items.result.now ≤ c.loop-target.target-index = omega (arith, c.loop-target-test.false) in
    node_followed c.args.rows.now c.args.closed c.args.ends.now c.args.from c.loop-target.search c.loop-at.at _ c.targets_at-target-items.result.now c.loop-target.target-index c.loop-target.invariant c.targets_at-target-items.ensures past

pub returns : goal.returns
returns c =
    let past : length c.loop-at.search.found ≤ c.loop-at.at = omega (arith, c.loop-at-test.false, c.len.ensures) in
    no_way c.args.rows.now c.args.closed c.args.ends.now c.args.from c.loop-at.search c.loop-at.at c.loop-at.invariant past
