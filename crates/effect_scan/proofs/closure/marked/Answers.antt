use Rattle.std.proofs.Common.{◌≡◌, ℕ, length, subst, arith, ◌∙◌}
use Rattle.class_sets.specs.Marks.{IsMarked}
use Rattle.effect_scan.specs.code.NodePlaces.{Lists}
use Rattle.effect_scan.proofs.Listing.{lists_yes, lists_no}
use Rattle.effect_scan.proofs.closure.marked.Goals.{then-contains+in_ok-push, else-contains}
use Rattle.effect_scan.proofs.closure.marked.Goals as goal

pub loop-class-preserved : goal.loop-class-preserved
loop-class-preserved c =
    elim c.if-contains.branch [
      | then-contains+in_ok-push w ↦ lists_yes _ _ _ _ c.loop-class.invariant (c.contains.ensures.0 w.if-contains.true) (w.classes-is ∙ w.in_ok-push.ensures.ok)
      | else-contains w ↦ rw w.classes-is (lists_no _ _ _ c.loop-class.invariant (λ h. let on = c.contains.ensures.1 h in let off = w.if-contains.false in cc))
    ]

pub returns : goal.returns
returns c =
    let end : c.loop-class.class ≡ length c.args.set.now = omega arith in
    subst (λ (n : ℕ). Lists (IsMarked c.args.set.now) n c.loop-class.classes) end c.loop-class.invariant
