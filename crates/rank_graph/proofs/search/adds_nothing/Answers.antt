use Rattle.std.proofs.lemmas.Option.{slice_get-get_or}
use Rattle.rank_graph.specs.declared.bits.Bits.{Bits}
use Rattle.rank_graph.proofs.Searching.{owns_within}
use Rattle.rank_graph.proofs.search.adds_nothing.Goals as goal

pub returns : goal.returns
returns c =
    let none : Bits = record { bits = 0 } in
    let mine = slice_get-get_or c.args.own.now c.args.other none c.requires.other in
    let theirs = slice_get-get_or c.args.own.now c.args.first none c.requires.first in
    λ yes. owns_within c.args.own.now c.args.other c.args.first _ _ c.union.result mine theirs (c.is_same.ensures.0 yes) c.union.ensures
