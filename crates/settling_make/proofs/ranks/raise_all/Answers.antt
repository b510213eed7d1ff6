use Rattle.std.proofs.Common.{◌<◌, ◌+◌, ℕ, List, length, get_or, ap, arith}
use Rattle.std.proofs.lemmas.List.Elements.{Contains-get_or}
use Rattle.rank_graph.specs.Solutions.{rank_of}
use Rattle.settling_make.proofs.Flooring.{raised_kept, raised_up, raised_all}
use Rattle.settling_make.proofs.ranks.raise_all.Goals as goal
use Rattle.settling_make.proofs.ranks.raise_all.Goals.{then-as_slice-member, else-as_slice-member}

pub bounds-as_slice-member : goal.bounds-as_slice-member
bounds-as_slice-member c =
    let low = c.requires.inside _ (Contains-get_or c.args.members.now c.loop-member.member-index 0 c.loop-member-test.true) in
    let e = ap (λ (l : List ℕ). length l) c.as_slice.ensures in
    let count = c.loop-member.invariant.count in
    omega (arith, low, e, count)

pub offset_bounds-as_slice-member : goal.offset_bounds-as_slice-member
offset_bounds-as_slice-member c =
    let low = c.requires.inside _ (Contains-get_or c.args.members.now c.loop-member.member-index 0 c.loop-member-test.true) in
    let e = ap (λ (l : List ℕ). length l) c.as_slice.ensures in
    let count = c.loop-member.invariant.count in
    let inside : get_or c.args.members.now c.loop-member.member-index 0 < length c.as_slice.result.now = omega (arith, low, e, count) in
    omega arith

pub set-requires : goal.set-requires
set-requires c =
    let low = c.requires.inside _ (Contains-get_or c.args.members.now c.loop-member.member-index 0 c.loop-member-test.true) in
    let count = c.loop-member.invariant.count in
    omega (arith, low, count)

pub loop-member-preserved : goal.loop-member-preserved
loop-member-preserved c =
    let low = c.requires.inside _ (Contains-get_or c.args.members.now c.loop-member.member-index 0 c.loop-member-test.true) in
    let count = c.loop-member.invariant.count in
    let read = ap (λ (l : List ℕ). get_or l (get_or c.args.members.now c.loop-member.member-index 0) 0) c.as_slice.ensures in
    let value = c.rank.ensures in
    elim c.if-as_slice-member.branch [
      | then-as_slice-member w ↦
          let up = w.if-as_slice-member.true in
          rw w.ranks-is
          (raised_up c.args.members.now c.args.floor (rank_of c.args.heights.now) c.args.ranks.now c.loop-member.member-index c.loop-member-test.true c.loop-member.ranks c.loop-member.invariant _ _ (ap (λ (n : ℕ). c.args.floor + n) value) (omega (arith, up, read)) c.if-raised-ge-MOST_BOUND.false (omega (arith, low, count)) w.set.ensures)
      | else-as_slice-member w ↦
          let high = w.if-as_slice-member.false in
          rw w.ranks-is (raised_kept c.args.members.now c.args.floor (rank_of c.args.heights.now) c.args.ranks.now c.loop-member.member-index c.loop-member-test.true c.loop-member.ranks c.loop-member.invariant (omega (arith, high, read, value)))
    ]

pub returns : goal.returns
returns c = raised_all c.args.members.now c.args.floor (rank_of c.args.heights.now) c.args.ranks.now c.loop-member.member-index c.loop-member.ranks c.loop-member-test.false c.loop-member.invariant
