use Rattle.std.proofs.Common.{ℕ, List, length, refl, ap, arith}
use Rattle.effect_scan.specs.declared.node.Node.{Node}
use Rattle.rank_graph.specs.Solutions.{rank_of}
use Rattle.rank_graph.proofs.Driving.{edge_inside}
use Rattle.settling_make.specs.declared.margin.Margin.{Margin}
use Rattle.settling_make.specs.Components.{number_of}
use Rattle.settling_make.proofs.Chaining.{are_given, outer_down}
use Rattle.settling_make.proofs.making.make_parts.Goals as goal

pub ranks_of-requires : goal.ranks_of-requires
ranks_of-requires c =
    let sets = rw c.in-Some.is at c.in_ok-made.ensures in
    rw c.as_slice.ensures
    (are_given c.args.meta.now c.edges_join_nodes.ensures c.args.scan.now c.requires.scan c.args.found.now c.requires.found (rank_of c.args.heights.now) c.requires.heights.are c.requires.heights.low c.in-Some.made sets c.in_ok-margins.margins c.in_ok-margins.ensures)

pub steps_of-requires-clause-falls : goal.steps_of-requires-clause-falls
steps_of-requires-clause-falls c = outer_down c.args.scan.now c.args.found.now c.requires.found c.args.outer.now c.requires.outer

pub lines_of-requires-clause-steps : goal.lines_of-requires-clause-steps
lines_of-requires-clause-steps c = rw c.as_slice-5.ensures (λ n low.
    let steps = rw c.in-Some-3.is at c.in_ok-steps.ensures in
    let nodes = c.requires.scan.edges.count in
    let same = ap (λ (ns : List Node). length ns) c.requires.scan.nodes in
    let inside = edge_inside c.args.found.now.sets (number_of c.args.found.now.numbers n) n ((c.requires.found.members n (number_of c.args.found.now.numbers n)).1 (omega (arith, low, nodes, same), refl)) in
    let count = steps.count in
    let margins = c.in_ok-margins.ensures.count in
    let first = ap (λ (ms : List Margin). length ms) c.as_slice-2.ensures in
    let last = ap (λ (l : List ℕ). length l) c.as_slice-7.ensures in
    omega (arith, inside, count, margins, first, last))
