use Rattle.std.proofs.Common.{Bool, length, false, ap, subst, List, ◌∙◌}
use Rattle.std.proofs.lemmas.List.{length-replicate}
use Rattle.class_sets.specs.Marks.{IsMarked}
use Rattle.class_sets.proofs.Marking.{unmarked}
use Rattle.effect_scan.proofs.Relating.{empty_none, empty_more}
use Rattle.effect_scan.proofs.closure.empty_relation.Goals as goal

pub loop-class-init : goal.loop-class-init
loop-class-init c = rw c.new-relation.ensures.items (empty_none c.args.count)

pub loop-class-preserved : goal.loop-class-preserved
loop-class-preserved c =
    empty_more _ _ _ _ _ c.loop-class.invariant (ap (λ (l : List Bool). length l) c.in_ok-row.ensures ∙ length-replicate c.args.count false)
    (λ j h. unmarked c.args.count j (subst (λ (l : List Bool). IsMarked l j) c.in_ok-row.ensures h)) c.in_ok-push.ensures.items
