use Rattle.std.proofs.Common.{◌≡◌, ◌∙◌, ◌&&◌, ℕ, Bool, true, false, List, cond, not, eqb, length, ap, sym}
use Rattle.std.specs.List.{list_any}
use Rattle.indexmap.specs.IndexSet.{contains}
use Rattle.meta_model.specs.Among.{is_among}
use Rattle.binding_graph.specs.code.Graph.{target_keys}
use Rattle.binding_graph.specs.code.Touched.{has_any}
use Rattle.binding_graph.proofs.Joining.{noted-more, noted-none, noted-skip}
use Rattle.binding_graph.proofs.OneByOne.{among-all}
use Rattle.binding_graph.proofs.graph.Graph.touched_among.Goals as goal

pub loop-object-init : goal.loop-object-init
loop-object-init c = λ o.
    let test : ℕ → Bool = λ k. has_any (target_keys c.args.self.now.touching k) in
    ap (list_any (eqb o)) c.new-touched.ensures.empty ∙ sym (noted-none c.args.objects.now test o)

pub loop-object-preserved-then-is_empty : goal.loop-object-preserved-then-is_empty
loop-object-preserved-then-is_empty c =
    let test : ℕ → Bool = λ k. has_any (target_keys c.args.self.now.touching k) in
    let none : test c.object-item.result ≡ false = ap has_any (sym c.of.ensures) ∙ ap not (sym c.is_empty.ensures ∙ c.if-is_empty.true) in
    noted-skip c.args.objects.now c.loop-object.object-index c.object-item.result c.loop-object-test.true c.object-item.is test (contains eqb c.loop-object.touched) c.loop-object.invariant none

pub loop-object-preserved : goal.loop-object-preserved
loop-object-preserved c =
    let test : ℕ → Bool = λ k. has_any (target_keys c.args.self.now.touching k) in
    let some : test c.object-item.result ≡ true = ap has_any (sym c.of.ensures) ∙ ap not (sym c.is_empty.ensures ∙ c.if-is_empty.false) in
    noted-more c.args.objects.now c.loop-object.object-index c.object-item.result c.loop-object-test.true c.object-item.is test (contains eqb c.loop-object.touched) c.loop-object.invariant (contains eqb c.insert.new.self) some
    (λ o. c.in_ok-insert.ensures.updates.0 o ∙ ap (λ (k : ℕ). cond (eqb k o) true (contains eqb c.loop-object.touched o)) c.number.ensures)

pub returns : goal.returns
returns c = λ o.
    c.loop-object.invariant o
    ∙ ap (λ (os : List ℕ). is_among o os && has_any (target_keys c.args.self.now.touching o)) (among-all c.args.objects.now c.loop-object.object-index c.loop-object-test.false)
