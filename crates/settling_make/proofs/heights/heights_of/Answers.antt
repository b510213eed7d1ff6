use Rattle.std.proofs.Common.{◌<◌, List, length, get_or, refl, ap, ◌∙◌, arith}
use Rattle.effect_scan.specs.declared.node.Node.{Node}
use Rattle.rank_check.proofs.Conditions.{edges_inside}
use Rattle.rank_graph.specs.Solutions.{rank_of}
use Rattle.settling_make.proofs.Circling.{node_here}
use Rattle.settling_make.proofs.Silent.{silent_range, no_classes, are_heights, no_property, first_inside}
use Rattle.settling_make.proofs.heights.heights_of.Goals as goal

pub silent_rows-requires : goal.silent_rows-requires
silent_rows-requires c = edges_inside c.args.meta.now c.args.scan.now c.requires.scan (length c.args.scan.now.nodes) (ap (λ (ns : List Node). length ns) c.requires.scan.nodes)

pub solve-requires-clause-inside : goal.solve-requires-clause-inside
solve-requires-clause-inside c = rw c.as_slice.ensures (λ a b edge. silent_range c.args.meta.now c.args.scan.now c.requires.scan c.args.found.now c.requires.found c.in_ok-rows.rows c.in_ok-rows.ensures a b edge)

pub solve-requires-clause-classes : goal.solve-requires-clause-classes
solve-requires-clause-classes c = rw c.as_slice-3.ensures (no_classes _ _ c.in_ok-own.ensures)

pub returns-in-Ok : goal.returns-in-Ok
returns-in-Ok c =
    are_heights c.args.meta.now c.args.scan.now c.requires.scan c.args.found.now c.requires.found c.in_ok-rows.rows c.in_ok-rows.ensures c.edges_join_nodes.ensures (rank_of c.in-Ok.solution) (rw c.as_slice.ensures at c.in-Ok.ensures.ranks)

pub offset_bounds-nodes-first : goal.offset_bounds-nodes-first
offset_bounds-nodes-first c =
    let told = rw (c.as_slice.ensures, c.in-Err-Cycle.field-0-is) at c.in-Err-Cycle.ensures.err in
    let inside = (first_inside c.args.meta.now c.args.scan.now c.requires.scan c.args.found.now c.requires.found c.in_ok-rows.rows c.in_ok-rows.ensures c.in-Err-Cycle.numbers c.as_slice-in-Err-Cycle.result.now told c.as_slice-in-Err-Cycle.ensures).1 in
    let count = ap (λ (ns : List Node). length ns) c.nodes.ensures in
    omega arith

pub bounds-nodes-first : goal.bounds-nodes-first
bounds-nodes-first c =
    let told = rw (c.as_slice.ensures, c.in-Err-Cycle.field-0-is) at c.in-Err-Cycle.ensures.err in
    let inside = (first_inside c.args.meta.now c.args.scan.now c.requires.scan c.args.found.now c.requires.found c.in_ok-rows.rows c.in_ok-rows.ensures c.in-Err-Cycle.numbers c.as_slice-in-Err-Cycle.result.now told c.as_slice-in-Err-Cycle.ensures).1 in
    let count = ap (λ (ns : List Node). length ns) c.nodes.ensures in
    omega arith

pub returns-in-Err-Cycle : goal.returns-in-Err-Cycle
returns-in-Err-Cycle c =
    let told = rw (c.as_slice.ensures, c.in-Err-Cycle.field-0-is) at c.in-Err-Cycle.ensures.err in
    let inside = (first_inside c.args.meta.now c.args.scan.now c.requires.scan c.args.found.now c.requires.found c.in_ok-rows.rows c.in_ok-rows.ensures c.in-Err-Cycle.numbers c.as_slice-in-Err-Cycle.result.now told c.as_slice-in-Err-Cycle.ensures).1 in
    let count = ap (λ (ns : List Node). length ns) c.nodes.ensures in
    let low : get_or c.as_slice-in-Err-Cycle.result.now 0 0 < length c.nodes.result.now = omega arith in
    no_property c.args.meta.now c.args.scan.now c.requires.scan c.args.found.now c.requires.found c.in_ok-rows.rows c.in_ok-rows.ensures c.in-Err-Cycle.numbers c.as_slice-in-Err-Cycle.result.now _ _ told c.as_slice-in-Err-Cycle.ensures refl
    (node_here _ _ _ _ (c.nodes.ensures ∙ c.requires.scan.nodes) low)
