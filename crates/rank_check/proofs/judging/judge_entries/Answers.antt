use Rattle.rank_check.proofs.Breaking.{rise_breaks, mistake_breaks, loose_breaks}
use Rattle.rank_check.proofs.Conditions.{edges_inside, rise_told, fall_of_nodes, mistake_told, hold_of_nodes}
use Rattle.rank_check.proofs.judging.judge_entries.Goals as goal

pub first_rise-requires : goal.first_rise-requires
first_rise-requires c = edges_inside c.args.meta.now c.args.scan.now c.requires.scan _ c.requires.names.are.count

pub returns-in-Some : goal.returns-in-Some
returns-in-Some c =
    let names = c.requires.names in
    let rise = rise_told c.args.meta.now c.args.certificate.now c.args.scan.now c.requires.scan c.args.entries.now names c.in-Some.rise c.in-Some.ensures in (
      (
        c.requires.ready.wires,
        c.requires.ready.typed,
        names.each_node,
        names.nothing_else,
        rise_breaks c.args.meta.now c.args.certificate.now c.in-Some.rise rise,
      ),
      rise,
    )

pub first_mistake-requires-clause-inside : goal.first_mistake-requires-clause-inside
first_mistake-requires-clause-inside c = edges_inside c.args.meta.now c.args.scan.now c.requires.scan _ c.requires.names.are.count

pub returns-in-Some-first_mistake : goal.returns-in-Some-first_mistake
returns-in-Some-first_mistake c =
    let names = c.requires.names in
    let mistake = mistake_told c.args.meta.now c.args.certificate.now c.args.scan.now c.requires.scan c.args.entries.now names c.in-Some-first_mistake.mistake c.in-Some-first_mistake.ensures in (
      (
        c.requires.ready.wires,
        c.requires.ready.typed,
        names.each_node,
        names.nothing_else,
        fall_of_nodes c.args.meta.now c.args.certificate.now c.args.scan.now c.requires.scan c.args.entries.now names c.edges_join_nodes.ensures c.in_default.ensures,
        mistake_breaks c.args.meta.now c.args.certificate.now c.in-Some-first_mistake.mistake mistake,
      ),
      mistake,
    )

pub returns-in-Some-loose_bound : goal.returns-in-Some-loose_bound
returns-in-Some-loose_bound c =
    let names = c.requires.names in (
      (
        c.requires.ready.wires,
        c.requires.ready.typed,
        names.each_node,
        names.nothing_else,
        fall_of_nodes c.args.meta.now c.args.certificate.now c.args.scan.now c.requires.scan c.args.entries.now names c.edges_join_nodes.ensures c.in_default.ensures,
        hold_of_nodes c.args.meta.now c.args.certificate.now c.args.scan.now c.requires.scan c.args.entries.now names c.edges_join_nodes.ensures c.in_default-first_mistake.ensures,
        loose_breaks c.args.meta.now c.args.certificate.now c.in-Some-loose_bound.loose c.in-Some-loose_bound.ensures,
      ),
      c.in-Some-loose_bound.ensures,
    )

pub returns-in-None : goal.returns-in-None
returns-in-None c =
    let names = c.requires.names in
    record {
      wires = c.requires.ready.wires;
      typed = c.requires.ready.typed;
      each_node = names.each_node;
      nothing_else = names.nothing_else;
      ranks = fall_of_nodes c.args.meta.now c.args.certificate.now c.args.scan.now c.requires.scan c.args.entries.now names c.edges_join_nodes.ensures c.in_default.ensures;
      sets = hold_of_nodes c.args.meta.now c.args.certificate.now c.args.scan.now c.requires.scan c.args.entries.now names c.edges_join_nodes.ensures c.in_default-first_mistake.ensures;
      bounded = c.in-None.ensures;
    }
