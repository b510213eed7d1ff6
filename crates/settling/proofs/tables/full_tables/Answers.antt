use Rattle.std.proofs.Common.{List, length, ap, ◌∙◌, sym, subst, arith}
use Rattle.std.proofs.lemmas.Option.{slice_get_within}
use Rattle.effect_scan.specs.declared.node.Node.{Node}
use Rattle.settling.specs.declared.certificate.SettlingLine.{SettlingLine}
use Rattle.settling.specs.code.Standings.{AreStandingsAt}
use Rattle.settling.proofs.Assembling.{each_there, class_lacks, tables_told}
use Rattle.settling.proofs.tables.full_tables.Goals as goal

pub destroy_sets-requires-clause-inside : goal.destroy_sets-requires-clause-inside
destroy_sets-requires-clause-inside c = λ n k at.
    let is = c.requires.places.is_for n k at in
    let low = slice_get_within c.args.certificate.now.lines k is.line is.stands in
    let count = ap (λ (ls : List SettlingLine). length ls) c.as_slice-lines.ensures in
    omega (arith, low, count)

pub standings-requires-clause-places : goal.standings-requires-clause-places
standings-requires-clause-places c = c.requires.places.counted ∙ ap (λ (ns : List Node). length ns) (sym c.requires.scan.nodes)

pub standings-requires-clause-sets : goal.standings-requires-clause-sets
standings-requires-clause-sets c = c.requires.sets.counted ∙ ap (λ (ns : List Node). length ns) (sym c.requires.scan.nodes)

pub standings-requires-clause-inside : goal.standings-requires-clause-inside
standings-requires-clause-inside c = λ n k at.
    let is = c.requires.places.is_for n k at in
    let low = slice_get_within c.args.certificate.now.lines k is.line is.stands in
    let count = ap (λ (ls : List SettlingLine). length ls) c.as_slice-lines.ensures in
    omega (arith, low, count)

pub returns-in_ok-standings-in-Some : goal.returns-in_ok-standings-in-Some
returns-in_ok-standings-in-Some c =
    let destroys = rw (c.as_slice-lines.ensures, c.in-Some.is) at c.in_ok-destroys.ensures in
    let lines = rw c.as_slice-lines.ensures at c.in_ok-standings-in-Some.ensures in
    let are = subst (λ (ns : List Node). AreStandingsAt ns c.args.certificate.now.lines c.args.places.now c.args.sets.now c.in_ok-standings-in-Some.standings) c.requires.scan.nodes lines in
    tables_told c.args.meta.now c.args.certificate.now c.requires.apart c.args.places.now c.requires.places c.args.sets.now c.requires.sets c.in-Some.destroys destroys c.in_ok-standings-in-Some.standings are

pub returns-in-None : goal.returns-in-None
returns-in-None c = λ ready.
    let lacks = rw (c.as_slice-lines.ensures, c.in-None.is) at c.in_ok-destroys.ensures in (
      ready.wires,
      ready.typed,
      each_there c.args.meta.now c.args.certificate.now c.args.places.now c.requires.places,
      class_lacks c.args.meta.now c.args.certificate.now lacks,
    )
