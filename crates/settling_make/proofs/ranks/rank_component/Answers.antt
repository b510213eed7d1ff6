use Rattle.std.proofs.Common.{ℕ, List, length, ap, arith}
use Rattle.rank_graph.specs.Solutions.{rank_of}
use Rattle.settling_make.specs.Ranking.{IsHighest}
use Rattle.settling_make.proofs.Ranking.{member_of, height_low, round_some, least_low, raised_told}
use Rattle.settling_make.proofs.ranks.rank_component.Goals as goal

pub highest_of-highest-requires : goal.highest_of-highest-requires
highest_of-highest-requires c = λ a h.
    let low = (member_of c.args.scan.now.nodes c.args.scan.now.rows c.args.found.now (rank_of c.args.heights.now) c.args.margins.now c.requires.given c.args.component c.requires.component c.args.members.now c.requires.members c.args.ranks.now c.requires.ranked a h).0 in
    let e = ap (λ (l : List ℕ). length l) c.as_slice.ensures in
    let needs = c.if-not-need_all.ensures.count in
    let ranked = c.requires.ranked.count in
    omega (arith, low, e, needs, ranked)

pub floor_of-floor-requires-clause-least : goal.floor_of-floor-requires-clause-least
floor_of-floor-requires-clause-least c = least_low c.args.scan.now.nodes c.args.scan.now.rows c.args.found.now (rank_of c.args.heights.now) c.args.margins.now c.requires.given c.args.component c.requires.component c.args.members.now c.requires.members c.args.ranks.now c.requires.ranked _

pub raise_all-requires-clause-inside : goal.raise_all-requires-clause-inside
raise_all-requires-clause-inside c = λ a h.
    let low = (member_of c.args.scan.now.nodes c.args.scan.now.rows c.args.found.now (rank_of c.args.heights.now) c.args.margins.now c.requires.given c.args.component c.requires.component c.args.members.now c.requires.members c.args.ranks.now c.requires.ranked a h).0 in
    let needs = c.if-not-need_all.ensures.count in
    let ranked = c.requires.ranked.count in
    omega (arith, low, needs, ranked)

pub raise_all-requires-clause-heights : goal.raise_all-requires-clause-heights
raise_all-requires-clause-heights c = λ a h. height_low c.args.scan.now.nodes c.args.scan.now.rows c.args.found.now (rank_of c.args.heights.now) c.args.margins.now c.requires.given c.args.component c.requires.component c.args.members.now c.requires.members c.args.ranks.now c.requires.ranked a h

pub returns : goal.returns
returns c =
    let highest : IsHighest c.need_all.new.ranks c.args.members.now c.highest_of-highest.result = rw c.as_slice.ensures at c.highest_of-highest.ensures in
    raised_told c.args.scan.now.nodes c.args.scan.now.rows c.args.found.now (rank_of c.args.heights.now) c.args.margins.now c.requires.given c.args.component c.requires.component c.args.members.now c.requires.members c.args.ranks.now c.requires.ranked c.need_all.new.ranks c.if-not-need_all.ensures c.floor_of-floor.result _ (c.floor_of-floor.ensures.floor c.need_all.new.ranks c.args.members.now highest (round_some c.args.scan.now.nodes c.args.scan.now.rows c.args.found.now (rank_of c.args.heights.now) c.args.margins.now c.requires.given c.args.component c.requires.component c.args.members.now c.requires.members c.args.ranks.now c.requires.ranked _)) c.raise_all.new.ranks c.raise_all.result c.raise_all.ensures
