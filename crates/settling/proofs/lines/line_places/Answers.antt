use Rattle.std.proofs.Common.{List, length, ap, ◌∙◌}
use Rattle.effect_scan.specs.declared.node.Node.{Node}
use Rattle.rank_check.proofs.Elements.{at_index}
use Rattle.settling.proofs.Lining.{placed_none, placed_more, lines_placed}
use Rattle.settling.proofs.lines.line_places.Goals as goal

pub loop-place-init : goal.loop-place-init
loop-place-init c = rw c.in_ok-places.ensures (placed_none c.args.meta.now c.args.lines.now _ (ap (λ (ns : List Node). length ns) (c.nodes.ensures ∙ c.requires.nodes)))

pub add_line-added-requires-clause-count : goal.add_line-added-requires-clause-count
add_line-added-requires-clause-count c = c.loop-place.invariant.are.counted

pub loop-place-preserved : goal.loop-place-preserved
loop-place-preserved c =
    rw c.both-apart.ensures
    (placed_more c.args.meta.now c.args.lines.now c.loop-place.place c.index-lines-place.result (at_index c.args.lines.now c.loop-place.place c.index-lines-place.result c.loop-place-test.true c.index-lines-place.is) c.loop-place.places c.loop-place.invariant.are
    c.loop-place.apart c.add_line-added.result c.add_line-added.new.places c.loop-place.invariant.apart_is c.add_line-added.ensures)

pub returns : goal.returns
returns c = lines_placed c.args.meta.now c.args.lines.now c.loop-place.place c.loop-place.places c.loop-place.apart c.loop-place-test.false c.loop-place.invariant
