use Rattle.std.proofs.Common.{◌<◌, length, arith}
use Rattle.class_sets.specs.Marks.{IsMarked}
use Rattle.effect_scan.proofs.Relating.{row_width, extends_at, square_after, held_at, pass_yes, pass_no, pass_all}
use Rattle.effect_scan.proofs.closure.pass.Goals.{then-contains, else-contains}
use Rattle.effect_scan.proofs.closure.pass.Goals as goal

pub join-requires : goal.join-requires
join-requires c =
    let low : c.loop-first.first < length c.args.relation.now = omega arith in
    let width = row_width _ c.loop-first.relation c.loop-first.first c.index-relation-first-then-contains.result c.loop-first.invariant.square low in
    omega (arith, c.requires.others)

pub loop-first-preserved : goal.loop-first-preserved
loop-first-preserved c =
    let low : c.loop-first.first < length c.args.relation.now = omega arith in
    let inside : c.loop-first.first < length c.loop-first.relation = omega (arith, c.loop-first.auto.relation) in
    let held = held_at c.loop-first.relation c.loop-first.first c.args.class c.index-relation-first.result inside in
    elim c.if-contains.branch [
      | then-contains w ↦
          rw w.relation-is
          (pass_yes _ _ _ _ _ _ (held.0 (c.contains.ensures.0 w.if-contains.true)) c.loop-first.invariant
          (extends_at (IsMarked c.args.others.now) _ _ w.index-relation-first-then-contains.result _ (square_after _ _ _ c.loop-first.invariant) inside w.join.ensures))
      | else-contains w ↦
          rw w.relation-is
          (pass_no _ _ _ _ _ (λ h. let on = c.contains.ensures.1 (held.1 h) in let off = w.if-contains.false in cc) c.loop-first.invariant)
    ]

pub returns : goal.returns
returns c = pass_all _ _ _ _ _ (omega arith) c.loop-first.invariant
