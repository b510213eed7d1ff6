use Rattle.std.proofs.Common.{◌∙◌}
use Rattle.program_commands.proofs.NodeWays.{if_ok, begins, ranged, rows_count, way_inside, way_told, way_there}
use Rattle.program_commands.proofs.node_ways.nodes_to.Goals as goal

pub number_of-first-requires-clause-node : goal.number_of-first-requires-clause-node
number_of-first-requires-clause-node c = begins c.args.meta.now c.args.scan.now c.requires.scan c.args.closed c.edges_join_nodes.ensures c.args.ends.now c.args.from c.requires.leads

pub way_to-requires-clause-inside : goal.way_to-requires-clause-inside
way_to-requires-clause-inside c = rw c.rows.ensures (λ a b edge. ranged c.args.meta.now c.args.scan.now c.requires.scan a b edge)

pub way_to-requires-clause-closed : goal.way_to-requires-clause-closed
way_to-requires-clause-closed c = rw c.rows.ensures (c.requires.closed ∙ rows_count c.args.meta.now c.args.scan.now c.requires.scan)

pub way_to-requires-clause-ends : goal.way_to-requires-clause-ends
way_to-requires-clause-ends c = rw c.rows.ensures (c.requires.ends ∙ rows_count c.args.meta.now c.args.scan.now c.requires.scan)

pub nodes_at-requires : goal.nodes_at-requires
nodes_at-requires c =
    let way = rw (c.rows.ensures, c.in-Some.is) at c.in_ok-numbers.ensures in
    way_inside c.args.meta.now c.args.scan.now c.requires.scan c.args.closed c.args.ends.now c.number_of-first.result c.args.from c.in-Some.numbers c.number_of-first.ensures way c.as_slice.result.now c.as_slice.ensures

pub returns : goal.returns
returns c =
    let way = rw (c.rows.ensures, c.in-Some.is) at c.in_ok-numbers.ensures in
    if_ok _ _ _ (λ nodes zip. way_told c.args.meta.now c.args.scan.now c.requires.scan c.args.closed c.args.ends.now c.number_of-first.result c.args.from c.in-Some.numbers c.as_slice.result.now nodes c.number_of-first.ensures way c.as_slice.ensures zip) c.nodes_at.ensures

pub unreachable-requires : goal.unreachable-requires
unreachable-requires c =
    let none = rw (c.rows.ensures, c.in-None.is) at c.in_ok-numbers.ensures in
    way_there c.args.meta.now c.args.scan.now c.requires.scan c.args.closed c.edges_join_nodes.ensures c.args.ends.now c.number_of-first.result c.args.from c.number_of-first.ensures c.requires.leads none
