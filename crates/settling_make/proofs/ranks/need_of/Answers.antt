use Rattle.std.proofs.Common.{◌<◌, ℕ, List, length, get_or, subst, arith}
use Rattle.std.specs.List.{Contains}
use Rattle.std.proofs.lemmas.List.Elements.{Contains-get_or}
use Rattle.settling_make.proofs.Flooring.{need_more, need_kept, need_all}
use Rattle.settling_make.proofs.ranks.need_of.Goals as goal
use Rattle.settling_make.proofs.ranks.need_of.Goals.{then-falls, else-falls}

pub falls-requires : goal.falls-requires
falls-requires c =
    let items = c.targets-target-items.result.now in
    let low : get_or items c.loop-target.target-index 0 < length c.args.ranks.now = c.requires.inside _ (subst (λ (l : List ℕ). Contains l (get_or items c.loop-target.target-index 0)) c.targets-target-items.ensures (Contains-get_or items c.loop-target.target-index 0 c.loop-target-test.true)) in
    let count = c.requires.nodes in
    omega (arith, low, count)

pub bounds-ranks-target : goal.bounds-ranks-target
bounds-ranks-target c =
    let items = c.targets-target-items.result.now in
    c.requires.inside _ (subst (λ (l : List ℕ). Contains l (get_or items c.loop-target.target-index 0)) c.targets-target-items.ensures (Contains-get_or items c.loop-target.target-index 0 c.loop-target-test.true))

pub offset_bounds-ranks-target : goal.offset_bounds-ranks-target
offset_bounds-ranks-target c =
    let items = c.targets-target-items.result.now in
    let inside : get_or items c.loop-target.target-index 0 < length c.args.ranks.now = c.requires.inside _ (subst (λ (l : List ℕ). Contains l (get_or items c.loop-target.target-index 0)) c.targets-target-items.ensures (Contains-get_or items c.loop-target.target-index 0 c.loop-target-test.true)) in
    omega arith

pub loop-target-preserved : goal.loop-target-preserved
loop-target-preserved c =
    elim c.if-falls.branch [
      | then-falls w ↦
          rw w.need-is
          (need_more c.args.scan.now.nodes c.args.scan.now.rows c.args.found.now.numbers c.args.ranks.now c.args.member c.args.least c.targets-target-items.result.now c.loop-target.target-index c.loop-target-test.true c.loop-target.need c.loop-target.invariant _ (c.falls.ensures.0 w.if-falls.true) w.over-need.ensures.least w.over-need.ensures.over w.over-need.ensures.met)
      | else-falls w ↦
          rw w.need-is
          (need_kept c.args.scan.now.nodes c.args.scan.now.rows c.args.found.now.numbers c.args.ranks.now c.args.member c.args.least c.targets-target-items.result.now c.loop-target.target-index c.loop-target-test.true c.loop-target.need c.loop-target.invariant (λ h. let yes = c.falls.ensures.1 h in let off = w.if-falls.false in cc))
    ]

pub returns-then-need-lt-MOST_BOUND : goal.returns-then-need-lt-MOST_BOUND
returns-then-need-lt-MOST_BOUND c = (
  need_all c.args.scan.now.nodes c.args.scan.now.rows c.args.found.now.numbers c.args.ranks.now c.args.member c.args.least c.targets-target-items.result.now c.loop-target.target-index c.loop-target.need c.targets-target-items.ensures c.loop-target-test.false c.loop-target.invariant,
  omega arith,
)

pub returns-else-need-lt-MOST_BOUND : goal.returns-else-need-lt-MOST_BOUND
returns-else-need-lt-MOST_BOUND c = (
  c.loop-target.need,
  need_all c.args.scan.now.nodes c.args.scan.now.rows c.args.found.now.numbers c.args.ranks.now c.args.member c.args.least c.targets-target-items.result.now c.loop-target.target-index c.loop-target.need c.targets-target-items.ensures c.loop-target-test.false c.loop-target.invariant,
  omega arith,
)
