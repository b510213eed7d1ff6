use Rattle.std.proofs.Common.{refl, subst, below_more, arith}
use Rattle.std.proofs.lemmas.Option.{slice_get_within}
use Rattle.effect_scan.specs.Rows.{row}
use Rattle.rank_check.specs.declared.entries.NodeClaim.{NodeClaim}
use Rattle.rank_check.specs.ByNumbers.{AreLower}
use Rattle.rank_check.proofs.Elements.{at_index, same_index}
use Rattle.rank_check.proofs.ranks.first_rise.Goals as goal

pub first_risen-requires-clause-inside : goal.first_risen-requires-clause-inside
first_risen-requires-clause-inside c = λ b edge. c.requires c.loop-node.node b edge

pub returns-in-Some : goal.returns-in-Some
returns-in-Some c =
    let high = c.in-Some.ensures in
    record {
      edge = high.held;
      upper = c.index-entries-node.result;
      upper_is = record { stands = at_index c.args.entries.now c.loop-node.node c.index-entries-node.result c.loop-node-test.true c.index-entries-node.is; line = refl };
      lower = high.entry;
      lower_is = high.is;
      rises = high.high;
    }

pub loop-node-preserved : goal.loop-node-preserved
loop-node-preserved c =
    below_more _ _ c.loop-node.invariant
    (λ x at.
    subst (λ (z : NodeClaim). AreLower (row c.args.scan.now.rows c.loop-node.node) c.args.entries.now z.rank)
    (same_index c.args.entries.now c.loop-node.node c.index-entries-node.result x c.loop-node-test.true c.index-entries-node.is at)
    c.in_default.ensures)

pub returns : goal.returns
returns c = λ a b x y at_x edge at_y.
    let low = slice_get_within c.args.entries.now a x at_x in
    c.loop-node.invariant a (omega (arith, low, c.loop-node-test.false)) x at_x b y edge at_y
