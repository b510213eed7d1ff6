use Rattle.rank_graph.specs.Solutions.{leads_of}
use Rattle.settling_make.proofs.Ending.{outer_range, own_low, are_destroyed, no_cycle}
use Rattle.settling_make.proofs.ends.destroyed.Goals as goal

pub solve-requires-clause-inside : goal.solve-requires-clause-inside
solve-requires-clause-inside c =
    (λ a b edge. outer_range c.args.meta.now c.args.scan.now c.requires.scan c.args.found.now c.requires.found c.args.outer.now c.in_ok-own.own c.requires.outer c.in_ok-own.ensures a b edge)

pub solve-requires-clause-classes : goal.solve-requires-clause-classes
solve-requires-clause-classes c =
    rw (c.as_slice-2.ensures, c.classes-classes.ensures.value)
    (λ a d edge. own_low c.args.meta.now c.args.scan.now c.requires.scan c.args.found.now c.requires.found c.args.outer.now c.in_ok-own.own c.requires.outer c.in_ok-own.ensures a d edge)

pub returns-in-Ok : goal.returns-in-Ok
returns-in-Ok c =
    are_destroyed c.args.meta.now c.args.scan.now c.requires.scan c.args.found.now c.requires.found c.args.outer.now c.in_ok-own.own c.requires.outer c.in_ok-own.ensures c.edges_join_nodes.ensures (leads_of c.in-Ok.solution)
    (rw c.as_slice-2.ensures at c.in-Ok.ensures.classes)

pub unreachable-requires : goal.unreachable-requires
unreachable-requires c =
    let told = rw c.in-Err-Cycle.field-0-is at c.in-Err-Cycle.ensures.err in
    no_cycle c.args.meta.now c.args.scan.now c.requires.scan c.args.found.now c.requires.found c.args.outer.now c.in_ok-own.own c.requires.outer c.in_ok-own.ensures _ told
