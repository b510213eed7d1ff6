use Rattle.std.proofs.Common.{◌∙◌, ◌++◌, ℕ, List, [], None, length, map, take, inl, refl, sym}
use Rattle.binding_graph.specs.declared.place.Place.{Place}
use Rattle.binding_graph.specs.code.Graph.{bindings_of, reader_keys}
use Rattle.binding_graph.specs.code.Lists.{place_at}
use Rattle.binding_graph.specs.code.BindingRanks.{rank_of}
use Rattle.binding_graph.specs.code.Turns.{number_of, reader_of, turns_in}
use Rattle.binding_graph.proofs.Graphs.{rank-rises, rank-short, ranks-apart}
use Rattle.binding_graph.proofs.Members.{in-places}
use Rattle.binding_graph.proofs.Places.{is_in-false, is_in-true}
use Rattle.binding_graph.proofs.Ranked.{in-at, next-taken}
use Rattle.binding_graph.proofs.Reaching.{followed-all, followed-more, followed-none, turn-again, turn-due, turn-followed, turn-given, turns-fewer, turns-less}
use Rattle.binding_graph.proofs.Waiting.{few-turns, taken-fewer}
use Rattle.binding_graph.proofs.following.followers.Goals as goal

pub loop-source-init : goal.loop-source-init
loop-source-init c = record { turns = c.new-turns.ensures.turns; followed = followed-none (bindings_of c.args.graph.now) (rank_of c.args.graph.now.ranks) c.args.from.now (turns_in c.new-turns.result) c.new-turns.ensures.none }

pub loop-source-preserved : goal.loop-source-preserved
loop-source-preserved c =
    let source : Place = c.source-item.result in
    let i : ℕ = c.loop-source.source-index in
    let keys : List (ℕ × ℕ) = reader_keys c.args.graph.now.readers source in
    let followed = followed-more (bindings_of c.args.graph.now) (rank_of c.args.graph.now.ranks) c.args.from.now (take i c.args.from.now) _ [] (map place_at keys) None _ _ source
    (next-taken c.args.from.now i source c.loop-source-test.true c.source-item.is) c.loop-source.invariant.followed c.in_ok-add_readers.ensures.added
    (λ q b some reads. in-places keys q (c.requires.graph.readers q source b some reads))
    (inl (in-at c.args.from.now i source c.loop-source-test.true c.source-item.is)) (λ t reader. tt) in
    record { turns = c.in_ok-add_readers.ensures.turns; followed = followed }

pub turns-preserved-then-is_turn : goal.turns-preserved-then-is_turn
turns-preserved-then-is_turn c =
    record {
      turns = c.pop.ensures.turns;
      followed = turn-again (bindings_of c.args.graph.now) (rank_of c.args.graph.now.ranks) c.args.from.now (c.args.from.now ++ c.turns.found.items) c.turns.found.items c.turns.last (turns_in c.turns.turns) (turns_in c.pop.new.self) c.in-Some.field-0 c.turns.invariant.followed c.in-Some.ensures.next.moved
          (sym c.is_turn.ensures ∙ c.if-is_turn.true);
    }

pub turns-preserved-then-is_given : goal.turns-preserved-then-is_given
turns-preserved-then-is_given c =
    record {
      turns = c.pop.ensures.turns;
      followed = turn-given (bindings_of c.args.graph.now) (rank_of c.args.graph.now.ranks) c.args.from.now (c.args.from.now ++ c.turns.found.items) c.turns.found.items c.turns.last (turns_in c.turns.turns) (turns_in c.pop.new.self) c.in-Some.field-0 c.turns.invariant.followed c.in-Some.ensures.next.moved
          c.at-place.result c.at-place.ensures (is_in-true c.args.from.now c.at-place.result (sym c.is_given.ensures ∙ c.if-is_given.true));
    }

pub turns-preserved : goal.turns-preserved
turns-preserved c =
    let place : Place = c.at-place.result in
    let keys : List (ℕ × ℕ) = reader_keys c.args.graph.now.readers place in
    record {
      turns = c.in_ok-add_readers-2.ensures.turns;
      followed = turn-followed (bindings_of c.args.graph.now) (rank_of c.args.graph.now.ranks) c.args.from.now (c.args.from.now ++ c.turns.found.items) c.turns.found.items c.turns.last (turns_in c.turns.turns) (turns_in c.pop.new.self) c.in-Some.field-0 c.turns.invariant.followed c.in-Some.ensures.next.moved
          place c.push.new.self.items (map place_at keys) (turns_in c.add_readers-in-Some.new.turns) c.at-place.ensures
          (ranks-apart c.args.graph.now c.requires.graph)
          (λ q m b i j some reads x y. rank-rises c.args.graph.now c.requires.graph q m b some reads j y i x)
          c.in-Some.ensures.next.lowest
          (sym c.is_turn.ensures ∙ c.if-is_turn.false)
          (is_in-false c.args.from.now place (sym c.is_given.ensures ∙ c.if-is_given.false))
          refl c.in_ok-push.ensures.items c.in_ok-add_readers-2.ensures.added
          (λ q b some reads. in-places keys q (c.requires.graph.readers q place b some reads));
    }

pub turns-smaller-then-is_turn : goal.turns-smaller-then-is_turn
turns-smaller-then-is_turn c = turns-less c.args.graph.now.ranks.next c.turns.last (length (turns_in c.turns.turns)) (length (turns_in c.pop.new.self)) (taken-fewer (turns_in c.turns.turns) (turns_in c.pop.new.self) c.in-Some.field-0 c.in-Some.ensures.next.moved)

pub turns-smaller-then-is_given : goal.turns-smaller-then-is_given
turns-smaller-then-is_given c = turns-less c.args.graph.now.ranks.next c.turns.last (length (turns_in c.turns.turns)) (length (turns_in c.pop.new.self)) (taken-fewer (turns_in c.turns.turns) (turns_in c.pop.new.self) c.in-Some.field-0 c.in-Some.ensures.next.moved)

pub turns-smaller : goal.turns-smaller
turns-smaller c =
    let due = turn-due (bindings_of c.args.graph.now) (rank_of c.args.graph.now.ranks) c.args.from.now (c.args.from.now ++ c.turns.found.items) c.turns.found.items c.turns.last (turns_in c.turns.turns) (turns_in c.pop.new.self) c.in-Some.field-0 c.turns.invariant.followed c.in-Some.ensures.next.moved in
    turns-fewer c.args.graph.now.ranks.next c.turns.last (number_of c.in-Some.field-0) (length (turns_in c.turns.turns)) (length (turns_in c.add_readers-in-Some.new.turns))
    (sym c.is_turn.ensures ∙ c.if-is_turn.false) due.2
    (rank-short c.args.graph.now c.requires.graph (reader_of c.in-Some.field-0) (number_of c.in-Some.field-0) due.0) (few-turns c.add_readers-in-Some.new.turns)

pub returns : goal.returns
returns c = followed-all (bindings_of c.args.graph.now) (rank_of c.args.graph.now.ranks) c.args.from.now c.turns.found.items c.turns.last (turns_in c.turns.turns) c.turns.invariant.followed c.in_default.ensures.next
