use Rattle.rank_check.proofs.Conditions.{edges_inside}
use Rattle.rank_check.proofs.Listing.{closure_low}
use Rattle.rank_make.proofs.Barred.{cycle_bars}
use Rattle.rank_make.proofs.Numbers.{own_is}
use Rattle.rank_make.proofs.Told.{cycle_inside, cycle_told}
use Rattle.std.proofs.Common.{length}
use Rattle.rank_make.proofs.ranking.rank_rows.Goals as goal

pub solve-requires-clause-inside : goal.solve-requires-clause-inside
solve-requires-clause-inside c = rw c.rows.ensures (λ a b edge. edges_inside c.args.meta.now c.args.scan.now c.requires.scan (length c.args.scan.now.rows) c.requires.scan.edges.count a b edge)

pub solve-requires-clause-alike : goal.solve-requires-clause-alike
solve-requires-clause-alike c = rw c.rows.ensures c.alike.ensures

pub solve-requires-clause-classes : goal.solve-requires-clause-classes
solve-requires-clause-classes c =
    rw (c.requires.own, c.classes.ensures.value)
    (λ a d edge. let end = own_is c.args.meta.now c.args.scan.now c.requires.scan a d edge in closure_low c.args.meta.now (end.0).class d end.3)

pub nodes_at-requires : goal.nodes_at-requires
nodes_at-requires c =
    let told = rw (c.rows.ensures, c.in-Err-Cycle.field-0-is) at c.in-Err-Cycle.ensures.err in
    cycle_inside c.args.meta.now c.args.scan.now c.requires.scan c.in-Err-Cycle.numbers told _ c.as_slice.ensures

pub returns-in_ok-nodes-in-Err-Cycle : goal.returns-in_ok-nodes-in-Err-Cycle
returns-in_ok-nodes-in-Err-Cycle c =
    let by_number = rw (c.rows.ensures, c.in-Err-Cycle.field-0-is) at c.in-Err-Cycle.ensures.err in
    let told = cycle_told c.args.meta.now c.args.scan.now c.requires.scan c.in-Err-Cycle.numbers by_number _ c.in_ok-nodes-in-Err-Cycle.nodes c.as_slice.ensures c.in_ok-nodes-in-Err-Cycle.ensures in
    (told, cycle_bars c.args.meta.now c.edges_join_nodes.ensures c.in_ok-nodes-in-Err-Cycle.nodes told)

pub returns-in-Ok : goal.returns-in-Ok
returns-in-Ok c = record {
  ranks = rw c.rows.ensures at c.in-Ok.ensures.ranks;
  classes = rw (c.rows.ensures, c.requires.own) at c.in-Ok.ensures.classes;
}
