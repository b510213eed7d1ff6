use Rattle.std.proofs.Common.{◌<◌, List, length, refl, ap, arith}
use Rattle.effect_scan.specs.declared.node.Node.{Node}
use Rattle.effect_scan.specs.declared.node.Member.TheVariants.{Method}
use Rattle.effect_scan.specs.Nodes.{node}
use Rattle.rank_check.proofs.Elements.{at_index}
use Rattle.rank_check.proofs.Conditions.{mistake_of_one, hold_more, hold_all}
use Rattle.rank_check.proofs.destroys.first_mistake.Goals as goal

pub lost_from-requires-clause-inside : goal.lost_from-requires-clause-inside
lost_from-requires-clause-inside c = λ b edge. c.requires.inside c.loop-number.number b edge

pub lost_from-requires-clause-before : goal.lost_from-requires-clause-before
lost_from-requires-clause-before c = c.loop-number.invariant.within

pub returns-in-Some-lost_from : goal.returns-in-Some-lost_from
returns-in-Some-lost_from c =
    let count = ap (λ (ns : List Node). length ns) c.nodes-node-items.ensures in
    let inside : c.loop-number.number < length c.args.entries.now = omega (arith, count, c.requires.count, c.loop-number-test.true) in
    let lost = rw c.get-set.ensures at c.in-Some-lost_from.ensures in
    record {
      edge = lost.held;
      upper = c.index-entries-number.result;
      upper_is = record { stands = at_index c.args.entries.now c.loop-number.number c.index-entries-number.result inside c.index-entries-number.is; line = refl };
      lower = lost.entry;
      lower_is = lost.is;
      holds = lost.holds;
      lacks = lost.lacks;
    }

pub returns-in-Some : goal.returns-in-Some
returns-in-Some c =
    let count = ap (λ (ns : List Node). length ns) c.nodes-node-items.ensures in
    let inside : c.loop-number.number < length c.args.entries.now = omega (arith, count, c.requires.count, c.loop-number-test.true) in
    let items = c.nodes-node-items.result.now in
    mistake_of_one c.args.meta.now c.args.scan.now.nodes c.args.scan.now.rows c.args.entries.now items c.loop-number.number (node 0 (Method 0)) c.index-entries-number.result
    c.nodes-node-items.ensures c.loop-number-test.true
    (at_index c.args.entries.now c.loop-number.number c.index-entries-number.result inside c.index-entries-number.is)
    c.in-Some.mistake (rw c.get-set.ensures at c.in-Some.ensures)

pub loop-number-preserved : goal.loop-number-preserved
loop-number-preserved c =
    let count = ap (λ (ns : List Node). length ns) c.nodes-node-items.ensures in
    let inside : c.loop-number.number < length c.args.entries.now = omega (arith, count, c.requires.count, c.loop-number-test.true) in
    let here = at_index c.args.entries.now c.loop-number.number c.index-entries-number.result inside c.index-entries-number.is in
    hold_more c.args.meta.now c.args.scan.now.nodes c.args.scan.now.rows c.args.entries.now c.nodes-node-items.result.now c.loop-number.number (node 0 (Method 0)) c.index-entries-number.result _ _ c.nodes-node-items.ensures c.loop-number-test.true here
    refl c.get-set.ensures c.in_default-lost_from.ensures c.in_default.ensures c.loop-number.invariant

pub returns : goal.returns
returns c =
    let count = ap (λ (ns : List Node). length ns) c.nodes-node-items.ensures in
    hold_all c.args.meta.now c.args.scan.now.nodes c.args.scan.now.rows c.args.entries.now c.loop-number.number (omega (arith, count, c.loop-number-test.false)) c.requires.count c.loop-number.invariant
