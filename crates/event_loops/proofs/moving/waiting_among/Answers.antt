use Rattle.std.proofs.Common.{◌≡◌, ◌∙◌, ◌&&◌, ℕ, Bool, List, true, false, not, cond, eqb, nat_lt, ap, sym}
use Rattle.std.specs.List.{list_any}
use Rattle.indexmap.specs.IndexSet.{contains}
use Rattle.event_loops.specs.code.Counts.{waiting_of}
use Rattle.event_loops.proofs.Sets.{noted-more, noted-none, noted-skip, take-past}
use Rattle.event_loops.proofs.moving.waiting_among.Goals as goal

pub loop-object-init : goal.loop-object-init
loop-object-init c = λ o.
    let test : ℕ → Bool = λ k. nat_lt 0 (waiting_of c.args.marks.now k) in
    ap (list_any (eqb o)) c.new-numbers.ensures.empty ∙ sym (noted-none c.args.objects.now test o)

pub loop-object-preserved-then-not-awaits : goal.loop-object-preserved-then-not-awaits
loop-object-preserved-then-not-awaits c =
    let test : ℕ → Bool = λ k. nat_lt 0 (waiting_of c.args.marks.now k) in
    let none : test c.object-item.result ≡ false = ap test (sym c.number.ensures) ∙ sym c.awaits.ensures ∙ c.if-not-awaits.true in
    noted-skip c.args.objects.now c.loop-object.object-index c.object-item.result c.loop-object-test.true c.object-item.is test (contains eqb c.loop-object.numbers) c.loop-object.invariant none

pub loop-object-preserved : goal.loop-object-preserved
loop-object-preserved c =
    let test : ℕ → Bool = λ k. nat_lt 0 (waiting_of c.args.marks.now k) in
    let some : test c.object-item.result ≡ true = ap test (sym c.number.ensures) ∙ sym c.awaits.ensures ∙ c.if-not-awaits.false in
    noted-more c.args.objects.now c.loop-object.object-index c.object-item.result c.loop-object-test.true c.object-item.is test (contains eqb c.loop-object.numbers) c.loop-object.invariant (contains eqb c.insert.new.self) some
    (λ o. c.in_ok-insert.ensures.updates.0 o ∙ ap (λ (k : ℕ). cond (eqb k o) true (contains eqb c.loop-object.numbers o)) c.number-in-loop-object.ensures)

pub returns : goal.returns
returns c = λ o.
    c.loop-object.invariant o
    ∙ ap (λ (os : List ℕ). list_any (λ k. eqb o k) os && nat_lt 0 (waiting_of c.args.marks.now o)) (take-past c.args.objects.now c.loop-object.object-index c.loop-object-test.false)
