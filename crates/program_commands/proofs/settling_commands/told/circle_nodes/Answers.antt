use Rattle.std.proofs.Common.{◌<◌, inl, inr, List, length, sym, ap, ◌∙◌}
use Rattle.effect_scan.specs.declared.node.Node.{Node}
use Rattle.effect_scan.proofs.Relating.{zip_length}
use Rattle.rank_graph.specs.Walks.{IsWalk}
use Rattle.program_commands.specs.{NodeWays.{MayPass}, Settling.{GoesBy, IsUnsettled}}
use Rattle.program_commands.proofs.NodeWays.{if_ok}
use Rattle.program_commands.proofs.Telling.{node_begins, none_quiet, quiet_circle, round_of, silent_way, way_round}
use Rattle.program_commands.proofs.settling_commands.told.circle_nodes.Goals as goal

pub nodes_between-requires-clause-node : goal.nodes_between-requires-clause-node
nodes_between-requires-clause-node c = let d = rw c.in-NoValue.is at c.requires in (c.edges_join_nodes.ensures _ _ d.0.leads).0

pub nodes_between-requires-clause-leads : goal.nodes_between-requires-clause-leads
nodes_between-requires-clause-leads c =
    let d = rw c.in-NoValue.is at c.requires in
    way_round c.args.meta.now c.in_ok-closed-in-NoValue.closed _ c.in_ok-closed-in-NoValue.ensures _ _ d.0

pub returns-in-NoValue : goal.returns-in-NoValue
returns-in-NoValue c =
    let d = rw c.in-NoValue.is at c.requires in
    if_ok (λ nodes. IsWalk (MayPass c.args.meta.now c.in_ok-closed-in-NoValue.closed) c.in-NoValue.node c.in-NoValue.node nodes × (1 < length nodes)) (IsUnsettled c.args.meta.now) c.nodes_between.result (λ nodes way. record { first = c.in-NoValue.node; comes_back = round_of c.args.meta.now c.in_ok-closed-in-NoValue.closed c.in-NoValue.node nodes way; against = inl d.1 }) c.nodes_between.ensures

pub returns-in-OtherValue : goal.returns-in-OtherValue
returns-in-OtherValue c =
    let d = rw c.in-OtherValue.is at c.requires in
    if_ok (GoesBy c.args.meta.now c.in-OtherValue.node c.in-OtherValue.next) (IsUnsettled c.args.meta.now) c.nodes_along.result (λ nodes goes. record { first = c.in-OtherValue.node; comes_back = goes.comes_back; against = inr (inl (c.in-OtherValue.next, goes, d.1)) }) c.nodes_along.ensures

pub nodes_between-requires-in-NoProperty-clause-closed : goal.nodes_between-requires-in-NoProperty-clause-closed
nodes_between-requires-in-NoProperty-clause-closed c = sym (zip_length _ _ _ c.in_ok-closed-in-NoProperty.ensures)

pub nodes_between-requires-in-NoProperty-clause-node : goal.nodes_between-requires-in-NoProperty-clause-node
nodes_between-requires-in-NoProperty-clause-node c =
    let d = rw c.in-NoProperty.is at c.requires in
    let q = quiet_circle c.args.meta.now c.in-NoProperty.node d.0 d.1 d.2 in
    node_begins c.args.meta.now c.edges_join_nodes.ensures c.in-NoProperty.node q.0 c.in-NoProperty.node q.1 q.2

pub nodes_between-requires-in-NoProperty-clause-leads : goal.nodes_between-requires-in-NoProperty-clause-leads
nodes_between-requires-in-NoProperty-clause-leads c =
    let d = rw c.in-NoProperty.is at c.requires in
    let q = quiet_circle c.args.meta.now c.in-NoProperty.node d.0 d.1 d.2 in (
      q.0,
      silent_way c.args.meta.now c.in_ok-closed-in-NoProperty.closed c.in_ok-scan.scan.nodes c.in_ok-scan.ensures.nodes c.in_ok-closed-in-NoProperty.ensures c.in-NoProperty.node q.0 c.in-NoProperty.node q.1 q.3,
      q.2,
    )

pub returns : goal.returns
returns c =
    if_ok (λ nodes. IsWalk (MayPass c.args.meta.now c.in_ok-closed-in-NoProperty.closed) c.in-NoProperty.node c.in-NoProperty.node nodes × (1 < length nodes)) (IsUnsettled c.args.meta.now) c.nodes_between-in-NoProperty.result (λ nodes way. record {
      first = c.in-NoProperty.node;
      comes_back = round_of c.args.meta.now c.in_ok-closed-in-NoProperty.closed c.in-NoProperty.node nodes way;
      against = inr (inr (none_quiet c.args.meta.now c.in_ok-closed-in-NoProperty.closed c.in_ok-scan.scan.nodes c.in_ok-scan.ensures.nodes c.in_ok-closed-in-NoProperty.ensures c.edges_join_nodes.ensures c.in-NoProperty.node nodes way));
    }) c.nodes_between-in-NoProperty.ensures
