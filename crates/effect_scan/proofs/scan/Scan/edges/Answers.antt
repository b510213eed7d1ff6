use Rattle.std.proofs.Common.{◌∙◌, ap}
use Rattle.effect_scan.proofs.Pairing.{pairs_of_row}
use Rattle.effect_scan.proofs.scan.Scan.edges.Goals as goal

pub loop-from-preserved : goal.loop-from-preserved
loop-from-preserved c =
    pairs_of_row _ _ _ _ _ _ _ _ (c.as_slice-row-items.ensures ∙ ap (λ s. s.rows) c.self.view_is) c.loop-from-test.true c.row-item.is c.loop-from.invariant c.as_slice-to-items.ensures c.loop-to-test.false c.loop-to.invariant
