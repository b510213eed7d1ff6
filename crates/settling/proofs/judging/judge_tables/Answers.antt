use Rattle.std.proofs.Common.{Bool, List, length, ap, ◌∙◌, sym, subst}
use Rattle.effect_scan.specs.declared.node.Node.{Node}
use Rattle.rank_check.proofs.Conditions.{edges_inside}
use Rattle.settling.specs.declared.standings.Standing.{Standing}
use Rattle.settling.specs.code.Standings.{AreStandings, AreDestroySets}
use Rattle.settling.proofs.OfNodes.{lead_in, fall_by_numbers, fall_of_nodes, hold_by_numbers, hold_of_nodes}
use Rattle.settling.proofs.judging.judge_tables.Goals as goal

pub edges_fall-requires : goal.edges_fall-requires
edges_fall-requires c =
    let t = c.requires.tables in
    let are = subst (λ (ss : List Standing). AreStandings c.args.meta.now c.args.certificate.now ss) (sym c.as_slice-standings.ensures) t.standings in
    lead_in c.args.meta.now c.args.certificate.now c.args.scan.now c.requires.scan t.nothing_else c.as_slice-standings.result.now are

pub returns-then-not-edges_fall : goal.returns-then-not-edges_fall
returns-then-not-edges_fall c =
    let t = c.requires.tables in
    let are = subst (λ (ss : List Standing). AreStandings c.args.meta.now c.args.certificate.now ss) (sym c.as_slice-standings.ensures) t.standings in (
      c.requires.ready.wires,
      c.requires.ready.typed,
      t.each_node,
      t.nothing_else,
      λ all. c.if-not-edges_fall.ensures (fall_by_numbers c.args.meta.now c.args.certificate.now c.args.scan.now c.requires.scan t.nothing_else c.as_slice-standings.result.now are all),
    )

pub sets_hold-requires-clause-inside : goal.sets_hold-requires-clause-inside
sets_hold-requires-clause-inside c =
    edges_inside c.args.meta.now c.args.scan.now c.requires.scan _ (ap (λ (ss : List (List Bool)). length ss) c.as_slice.ensures ∙ c.requires.tables.destroys.count)

pub sets_hold-requires-clause-count : goal.sets_hold-requires-clause-count
sets_hold-requires-clause-count c =
    ap (λ (ss : List (List Bool)). length ss) c.as_slice.ensures ∙ c.requires.tables.destroys.count ∙ ap (λ (ns : List Node). length ns) (sym c.requires.scan.nodes)

pub returns-then-not-sets_hold : goal.returns-then-not-sets_hold
returns-then-not-sets_hold c =
    let t = c.requires.tables in
    let are = subst (λ (ss : List Standing). AreStandings c.args.meta.now c.args.certificate.now ss) (sym c.as_slice-standings.ensures) t.standings in
    let destroys = subst (λ (ss : List (List Bool)). AreDestroySets c.args.meta.now c.args.certificate.now ss) (sym c.as_slice.ensures) t.destroys in (
      c.requires.ready.wires,
      c.requires.ready.typed,
      t.each_node,
      t.nothing_else,
      fall_of_nodes c.args.meta.now c.args.certificate.now c.args.scan.now c.requires.scan t.nothing_else c.as_slice-standings.result.now are c.edges_join_nodes.ensures c.if-not-edges_fall.ensures,
      λ all. c.if-not-sets_hold.ensures (hold_by_numbers c.args.meta.now c.args.certificate.now c.args.scan.now c.requires.scan t.nothing_else c.as_slice.result.now destroys all),
    )

pub returns-then-not-is_bounded : goal.returns-then-not-is_bounded
returns-then-not-is_bounded c =
    let t = c.requires.tables in
    let are = subst (λ (ss : List Standing). AreStandings c.args.meta.now c.args.certificate.now ss) (sym c.as_slice-standings.ensures) t.standings in
    let destroys = subst (λ (ss : List (List Bool)). AreDestroySets c.args.meta.now c.args.certificate.now ss) (sym c.as_slice.ensures) t.destroys in (
      c.requires.ready.wires,
      c.requires.ready.typed,
      t.each_node,
      t.nothing_else,
      fall_of_nodes c.args.meta.now c.args.certificate.now c.args.scan.now c.requires.scan t.nothing_else c.as_slice-standings.result.now are c.edges_join_nodes.ensures c.if-not-edges_fall.ensures,
      hold_of_nodes c.args.meta.now c.args.certificate.now c.args.scan.now c.requires.scan t.nothing_else c.as_slice.result.now destroys c.edges_join_nodes.ensures c.if-not-sets_hold.ensures,
      λ both. c.if-not-is_bounded.ensures both.0,
    )

pub sets_rest-requires-clause-standings : goal.sets_rest-requires-clause-standings
sets_rest-requires-clause-standings c = subst (λ (ss : List Standing). AreStandings c.args.meta.now c.args.certificate.now ss) (sym c.as_slice-standings.ensures) c.requires.tables.standings

pub sets_rest-requires-clause-rest : goal.sets_rest-requires-clause-rest
sets_rest-requires-clause-rest c = c.requires.tables.nothing_else

pub returns-then-branch : goal.returns-then-branch
returns-then-branch c =
    let t = c.requires.tables in
    let are = subst (λ (ss : List Standing). AreStandings c.args.meta.now c.args.certificate.now ss) (sym c.as_slice-standings.ensures) t.standings in
    let destroys = subst (λ (ss : List (List Bool)). AreDestroySets c.args.meta.now c.args.certificate.now ss) (sym c.as_slice.ensures) t.destroys in
    record {
      wires = c.requires.ready.wires;
      typed = c.requires.ready.typed;
      each_node = t.each_node;
      nothing_else = t.nothing_else;
      edges = fall_of_nodes c.args.meta.now c.args.certificate.now c.args.scan.now c.requires.scan t.nothing_else c.as_slice-standings.result.now are c.edges_join_nodes.ensures c.if-not-edges_fall.ensures;
      rounds = rw c.if-branch.true at c.in_ok-sets_rest.ensures;
      sets = hold_of_nodes c.args.meta.now c.args.certificate.now c.args.scan.now c.requires.scan t.nothing_else c.as_slice.result.now destroys c.edges_join_nodes.ensures c.if-not-sets_hold.ensures;
      bounded = c.if-not-is_bounded.ensures;
    }

pub returns-else-branch : goal.returns-else-branch
returns-else-branch c =
    let t = c.requires.tables in
    let are = subst (λ (ss : List Standing). AreStandings c.args.meta.now c.args.certificate.now ss) (sym c.as_slice-standings.ensures) t.standings in
    let destroys = subst (λ (ss : List (List Bool)). AreDestroySets c.args.meta.now c.args.certificate.now ss) (sym c.as_slice.ensures) t.destroys in (
      c.requires.ready.wires,
      c.requires.ready.typed,
      t.each_node,
      t.nothing_else,
      fall_of_nodes c.args.meta.now c.args.certificate.now c.args.scan.now c.requires.scan t.nothing_else c.as_slice-standings.result.now are c.edges_join_nodes.ensures c.if-not-edges_fall.ensures,
      hold_of_nodes c.args.meta.now c.args.certificate.now c.args.scan.now c.requires.scan t.nothing_else c.as_slice.result.now destroys c.edges_join_nodes.ensures c.if-not-sets_hold.ensures,
      λ both. (rw c.if-branch.false at c.in_ok-sets_rest.ensures) both.1,
    )
