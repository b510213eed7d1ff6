use Rattle.std.proofs.Common.{◌<◌, List, length, sym, ap, ◌∙◌}
use Rattle.effect_scan.specs.declared.node.Node.{Node}
use Rattle.effect_scan.proofs.Relating.{zip_length}
use Rattle.program_commands.proofs.NodeWays.{if_ok}
use Rattle.program_commands.proofs.Telling.{none_counted, ends_itself, end_told}
use Rattle.program_commands.proofs.settling_commands.told.ending_nodes.Goals as goal

pub nodes_to-requires-clause-closed : goal.nodes_to-requires-clause-closed
nodes_to-requires-clause-closed c = none_counted _ _ _ c.in_ok-closed.ensures (ap (λ (ns : List Node). length ns) c.nodes.ensures)

pub nodes_to-requires-clause-ends : goal.nodes_to-requires-clause-ends
nodes_to-requires-clause-ends c = rw c.as_slice.ensures (sym (zip_length _ _ _ c.in_ok-ends.ensures))

pub nodes_to-requires-clause-leads : goal.nodes_to-requires-clause-leads
nodes_to-requires-clause-leads c =
    rw c.as_slice.ensures
    (ends_itself c.args.meta.now c.in_ok-scan.scan c.in_ok-scan.ensures c.in_ok-closed.closed c.in_ok-ends.ends _ c.in_ok-closed.ensures c.args.node c.requires c.in_ok-ends.ensures c.edges_join_nodes.ensures)

pub returns : goal.returns
returns c =
    if_ok _ _ _ (λ nodes way. end_told c.args.meta.now c.in_ok-scan.scan c.in_ok-scan.ensures c.in_ok-closed.closed c.in_ok-ends.ends c.args.node nodes c.requires c.in_ok-ends.ensures way) (rw c.as_slice.ensures at c.nodes_to.ensures)
