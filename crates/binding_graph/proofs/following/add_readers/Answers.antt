use Rattle.std.proofs.Common.{◌∙◌, List, map, ap, subst}
use Rattle.binding_graph.specs.declared.place.Place.{Place}
use Rattle.binding_graph.specs.Bindings.{binding_at}
use Rattle.binding_graph.specs.code.Graph.{bindings_of}
use Rattle.binding_graph.specs.code.Lists.{place_at}
use Rattle.binding_graph.specs.code.BindingRanks.{rank_of}
use Rattle.binding_graph.specs.code.Turns.{AddsReaders, turns_in}
use Rattle.binding_graph.proofs.Members.{key-taken, keys-taken}
use Rattle.binding_graph.proofs.Reaching.{adds-none, adds-put, adds-skip}
use Rattle.binding_graph.proofs.following.add_readers.Goals as goal

pub loop-key-init : goal.loop-key-init
loop-key-init c = record { turns = c.requires.turns; added = adds-none _ _ c.args.source.now (turns_in c.args.turns.now) }

pub loop-key-preserved-in_default : goal.loop-key-preserved-in_default
loop-key-preserved-in_default c =
    let cut = key-taken c.of_near-readers.result.now c.loop-key.key-index _ c.at.result c.at.ensures c.loop-key-test.true in
    record { turns = c.loop-key.invariant.turns; added = adds-skip _ _ _ _ _ _ _ c.at.result cut c.loop-key.invariant.added c.in_default.ensures }

pub loop-key-preserved : goal.loop-key-preserved
loop-key-preserved c =
    let cut = key-taken c.of_near-readers.result.now c.loop-key.key-index _ c.at.result c.at.ensures c.loop-key-test.true in
    let reader = c.in-Some.ensures in
    record {
      turns = c.in_ok-push.ensures.turns;
      added = adds-put _ _ _ _ _ _ _ _ c.at.result _ reader.0 cut c.at.ensures c.loop-key.invariant.added c.in_ok-push.ensures.put reader.1 reader.2 reader.3;
    }

pub returns-clause-added : goal.returns-clause-added
returns-clause-added c =
    let whole = ap (map place_at) (keys-taken c.of_near-readers.result.now c.loop-key.key-index c.loop-key-test.false ∙ c.of_near-readers.ensures) in
    subst (λ (readers : List Place). AddsReaders (binding_at (bindings_of c.args.graph.now)) (rank_of c.args.graph.now.ranks) c.args.source.now readers (turns_in c.args.turns.now) (turns_in c.loop-key.turns)) whole c.loop-key.invariant.added
