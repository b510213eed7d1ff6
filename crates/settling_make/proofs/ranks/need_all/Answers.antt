use Rattle.std.proofs.Common.{ℕ, List, length, ap, arith}
use Rattle.std.proofs.lemmas.List.Elements.{Contains-get_or}
use Rattle.rank_graph.specs.Solutions.{rank_of}
use Rattle.settling_make.proofs.Ranking.{needs_more, needs_high, member_of}
use Rattle.settling_make.proofs.ranks.need_all.Goals as goal

pub need_of-requires-clause-inside : goal.need_of-requires-clause-inside
need_of-requires-clause-inside c = λ b held.
    let low = c.requires.given.inside _ b held in
    let e = ap (λ (l : List ℕ). length l) c.as_slice.ensures in
    let count = c.loop-member.invariant.count in
    let ranked = c.requires.ranked.count in
    omega (arith, low, e, count, ranked)

pub set-requires : goal.set-requires
set-requires c =
    let held = Contains-get_or c.args.members.now c.loop-member.member-index 0 c.loop-member-test.true in
    let low = (member_of c.args.scan.now.nodes c.args.scan.now.rows c.args.found.now (rank_of c.args.heights.now) c.args.margins.now c.requires.given c.args.component c.requires.component c.args.members.now c.requires.members c.args.ranks.now c.requires.ranked _ held).0 in
    let count = c.loop-member.invariant.count in
    let ranked = c.requires.ranked.count in
    omega (arith, low, count, ranked)

pub returns-in-None : goal.returns-in-None
returns-in-None c =
    let told = rw c.as_slice.ensures at c.in-None.ensures in
    needs_high c.args.scan.now.nodes c.args.scan.now.rows c.args.found.now (rank_of c.args.heights.now) c.args.margins.now c.requires.given c.args.component c.requires.component c.args.members.now c.requires.members c.args.ranks.now c.requires.ranked c.loop-member.member-index c.loop-member-test.true c.loop-member.ranks c.loop-member.invariant told.0 _ told.1 told.2

pub loop-member-preserved : goal.loop-member-preserved
loop-member-preserved c =
    let told = rw c.as_slice.ensures at c.in-Some.ensures in
    needs_more c.args.scan.now.nodes c.args.scan.now.rows c.args.found.now (rank_of c.args.heights.now) c.args.margins.now c.requires.given c.args.component c.requires.component c.args.members.now c.requires.members c.args.ranks.now c.requires.ranked c.loop-member.member-index c.loop-member-test.true c.loop-member.ranks c.loop-member.invariant c.in-Some.need _ told.0 told.1 _ c.set.ensures
