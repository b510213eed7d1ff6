use Rattle.std.proofs.Common.{◌≡◌, ◌∙◌, ◌+◌, ℕ, length, sym, ap}
use Rattle.std.proofs.lemmas.List.{length-append}
use Rattle.effect_scan.proofs.Numbered.{numbers_more, same_shape, shapes_more, nodes_all}
use Rattle.effect_scan.proofs.numbering.Numbering.of.Goals as goal

pub loop-number-preserved : goal.loop-number-preserved
loop-number-preserved c =
    let count : c.loop-number.number ≡ length c.loop-number.shapes = sym c.loop-number.invariant.1 in (
      numbers_more _ _ _ _ _ _ _ _ _ c.loop-number.invariant.0 count c.len-start.ensures c.in_ok-push_nodes.ensures c.in_ok-push.ensures.ok c.in_ok-push-2.ensures.ok,
      ap length c.in_ok-push.ensures.ok ∙ length-append c.loop-number.shapes _ ∙ ap (λ (n : ℕ). n + 1) c.loop-number.invariant.1,
      shapes_more c.args.classes.now c.loop-number.number c.index-classes-number.result _ _ _ c.loop-number-test.true c.index-classes-number.is (same_shape c.index-classes-number.result _ _ c.len.ensures c.len-in-loop-number.ensures) c.loop-number.invariant.2 c.in_ok-push.ensures.ok,
    )

pub returns : goal.returns
returns c = nodes_all _ _ _ _ _ c.loop-number-test.false c.loop-number.invariant.0 c.loop-number.invariant.2
