use Rattle.std.proofs.Common.{refl, ◌∙◌}
use Rattle.rank_graph.specs.Solutions.{leads_of}
use Rattle.settling_make.proofs.Circling.{node_here}
use Rattle.settling_make.proofs.Lining.{lines_more}
use Rattle.settling_make.proofs.lines.lines_of.Goals as goal

pub loop-place-preserved : goal.loop-place-preserved
loop-place-preserved c =
    lines_more c.args.meta.now c.args.numbers.now c.args.ranks.now c.args.steps.now (leads_of c.args.destroyed.now) c.loop-place.place _ (node_here _ _ _ _ (c.nodes-node-items.ensures ∙ c.requires.scan.nodes) c.loop-place-test.true)
    c.loop-place.lines _ c.in_ok-line.line c.in_ok-push.ensures.ok _ _ _ c.number_at-number.ensures refl refl c.in_ok-line.ensures c.loop-place.invariant
