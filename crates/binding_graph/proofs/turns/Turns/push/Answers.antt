use Rattle.std.proofs.Common.{◌∷◌, ◌++◌, ◌≤◌, List, subst, sym, arith}
use Rattle.std.specs.BinaryHeap.{heap_items}
use Rattle.std.specs.List.Sorted.{IsPermutation}
use Rattle.std.proofs.lemmas.List.Sorted.{IsPermutation-append_left}
use Rattle.binding_graph.specs.code.Turns.{AtMost, InTurn, Turn}
use Rattle.binding_graph.proofs.Waiting.{at-most-push, in-turn-push, put-in-row}
use Rattle.binding_graph.proofs.turns.Turns.push.Goals as goal

pub returns-then-number-self-clause-put : goal.returns-then-number-self-clause-put
returns-then-number-self-clause-put c = IsPermutation-append_left c.args.self.now.row.items _ _ c.in_ok-push.ensures.permutation

pub returns-clause-put : goal.returns-clause-put
returns-clause-put c = subst (λ (row : List Turn). IsPermutation (c.args.turn ∷ heap_items c.args.self.now.others ++ c.args.self.now.row.items) (heap_items c.args.self.now.others ++ row)) (sym c.in_ok-push_back.ensures.items)
    (put-in-row (heap_items c.args.self.now.others) c.args.self.now.row.items c.args.turn)

pub returns-clause-turns : goal.returns-clause-turns
returns-clause-turns c =
    let over : c.args.self.now.last ≤ c.args.turn.0.0 = omega (arith, c.if-number-self.false) in
    record {
      heap = c.requires.heap;
      row = subst InTurn (sym c.in_ok-push_back.ensures.items) (in-turn-push c.args.self.now.row.items c.args.turn c.args.self.now.last c.requires.row c.requires.last over);
      last = subst (AtMost c.args.turn.0.0) (sym c.in_ok-push_back.ensures.items) (at-most-push c.args.self.now.row.items c.args.turn c.args.self.now.last c.requires.last over);
    }
