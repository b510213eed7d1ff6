use Rattle.std.proofs.Common.{◌<◌, length, refl, arith}
use Rattle.std.specs.BinaryHeap.{heap_items, heap_len}
use Rattle.std.proofs.lemmas.Bool.{false≢true}
use Rattle.binding_graph.proofs.Waiting.{front-below, heap-none, heap-over, taken-from-heap, taken-from-row, top-there}
use Rattle.binding_graph.proofs.turns.Turns.pop.Goals as goal

pub returns-then-other-first-clause-next : goal.returns-then-other-first-clause-next
returns-then-other-first-clause-next c =
    let some : 0 < heap_len c.args.self.now.others = c.in-Some-peek.ensures.variant.0 refl in
    let there : 0 < length (heap_items c.args.self.now.others) = omega (arith, some, c.args.self.now.others.data.ok.0) in
    taken-from-heap c.pop-then-other-first.result (heap_items c.args.self.now.others) (heap_items c.pop-then-other-first.new.self) c.args.self.now.row.items c.in-Some.first.now c.in-Some-peek.other.now (c.pop-then-other-first.ensures.variant.1 some) c.pop-then-other-first.ensures.permutation c.pop-then-other-first.ensures.below_top c.requires.heap
    (top-there (heap_items c.args.self.now.others) c.in-Some-peek.other.now there c.in-Some-peek.ensures.lookup)
    (omega (arith, c.if-other-first.true))
    (front-below c.args.self.now.row.items c.in-Some.first.now c.requires.row c.in-Some.ensures.lookup)

pub returns-in_default-peek-clause-next : goal.returns-in_default-peek-clause-next
returns-in_default-peek-clause-next c =
    taken-from-row c.pop_front.result (heap_items c.args.self.now.others) c.args.self.now.row.items c.pop_front.new.self.items c.in-Some.first.now (c.pop_front.ensures.variant.1 (c.in-Some.ensures.variant.0 refl)) c.pop_front.ensures.items c.in-Some.ensures.lookup c.requires.row
    (heap-none (heap_items c.args.self.now.others) _ (λ some. (let held : 0 < heap_len c.args.self.now.others = omega (arith, some, c.args.self.now.others.data.ok.0) in false≢true (c.in_default-peek.ensures.variant.1 held))))

pub returns-clause-next : goal.returns-clause-next
returns-clause-next c =
    taken-from-row c.pop_front-2.result (heap_items c.args.self.now.others) c.args.self.now.row.items c.pop_front-2.new.self.items c.in-Some.first.now (c.pop_front-2.ensures.variant.1 (c.in-Some.ensures.variant.0 refl)) c.pop_front-2.ensures.items c.in-Some.ensures.lookup c.requires.row
    (heap-over (heap_items c.args.self.now.others) c.in-Some.first.now c.in-Some-peek.other.now (c.in-Some-peek.ensures.greatest c.requires.heap) (omega (arith, c.if-other-first.false)))
