use Rattle.std.proofs.Common.{List, ◌++◌, length, ap, ◌∙◌}
use Rattle.effect_scan.specs.declared.node.Node.{Node}
use Rattle.program_commands.proofs.Telling.{none_counted, way_back, goes_by}
use Rattle.program_commands.proofs.settling_commands.told.nodes_along.Goals as goal

pub nodes_between-requires-clause-closed : goal.nodes_between-requires-clause-closed
nodes_between-requires-clause-closed c = none_counted _ _ _ c.in_ok-closed.ensures (ap (λ (ns : List Node). length ns) c.nodes-2.ensures)

pub nodes_between-requires-clause-node : goal.nodes_between-requires-clause-node
nodes_between-requires-clause-node c = (c.edges_join_nodes.ensures c.args.from c.args.next c.requires.round.leads).0

pub nodes_between-requires-clause-leads : goal.nodes_between-requires-clause-leads
nodes_between-requires-clause-leads c =
    let round = c.requires.round in
    way_back c.args.meta.now c.in_ok-closed.closed _ c.in_ok-closed.ensures c.args.from c.args.next round.along round.leads round.back

pub returns : goal.returns
returns c =
    goes_by c.args.meta.now c.in_ok-closed.closed c.args.from c.args.next c.append.new.self c.in_ok-nodes_between.field-0 c.requires.round.leads (c.in_ok-append.ensures ∙ ap (λ (ns : List Node). ns ++ c.in_ok-nodes_between.field-0) c.in_ok-nodes.ensures) c.in_ok-nodes_between.ensures
