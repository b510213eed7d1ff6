use Rattle.rank_graph.proofs.Turning.{told_from, joined}
use Rattle.rank_graph.proofs.cycle.from_least.Goals as goal

pub returns : goal.returns
returns c = λ rows.
    told_from rows c.args.nodes.now _ c.least_place-place.result c.least_place-place.ensures.inside c.least_place-place.ensures.least
    (joined c.args.nodes.now c.least_place-place.result c.in_ok-extend_from_slice-2.ensures.items c.in_ok-extend_from_slice.ensures.items c.new-told.ensures.items)
