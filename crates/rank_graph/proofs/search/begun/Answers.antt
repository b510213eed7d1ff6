use Rattle.std.proofs.Common.{◌<◌, length, refl, arith}
use Rattle.std.proofs.lemmas.Option.{slice_get-get_or}
use Rattle.rank_graph.specs.declared.bits.Bits.{Bits}
use Rattle.rank_graph.proofs.Searching.{begun_known, begun_none}
use Rattle.rank_graph.proofs.search.begun.Goals as goal

pub returns-in-Some : goal.returns-in-Some
returns-in-Some c =
    let none : Bits = record { bits = 0 } in
    let inside : c.args.node < length c.args.own.now = omega (arith, c.requires.node, c.requires.own) in
    let is = slice_get-get_or c.args.own.now c.args.node none inside in
    begun_known c.args.rows.now c.args.alike.now c.args.own.now c.args.states.now c.args.node _ c.in-Some.entry (record { rank = c.in-Some.entry.rank; classes = c.union.result }) c.targets_at.result.now c.requires.alike c.requires.finished c.in-Some.ensures c.targets_at.ensures is refl c.union.ensures

pub returns-in-None : goal.returns-in-None
returns-in-None c =
    let none : Bits = record { bits = 0 } in
    let inside : c.args.node < length c.args.own.now = omega (arith, c.requires.node, c.requires.own) in
    begun_none c.args.rows.now c.args.own.now c.args.states.now c.args.node _ c.requires.states (slice_get-get_or c.args.own.now c.args.node none inside)
