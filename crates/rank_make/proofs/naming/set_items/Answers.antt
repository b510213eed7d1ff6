use Rattle.std.proofs.Common.{◌≡◌, ◌+◌, ℕ, Bool, true, false, List, length, slice_get, Some, sym, ap, ◌∙◌, subst, arith}
use Rattle.meta_model.specs.declared.object.MetaObject.{MetaObject}
use Rattle.class_sets.specs.Marks.{IsMarked}
use Rattle.certificate_lang.specs.declared.certificate.SetItem.TheVariants as item
use Rattle.rank_check.proofs.Elements.{at_index}
use Rattle.rank_check.proofs.Listing.{row_low}
use Rattle.rank_graph.specs.Solutions.{leads_of}
use Rattle.rank_make.specs.Solved.{AreItems}
use Rattle.rank_make.proofs.Steps.{WrittenSoFar, items_of_none, items_none, items_yes, items_no}
use Rattle.rank_make.proofs.naming.set_items.Goals as goal
use Rattle.rank_make.proofs.naming.set_items.Goals.{then-leads_to+then-not-contains+in_ok-name+in_ok-push, else-leads_to, else-leads_to-via-then-leads_to+else-not-contains, else-leads_to-via-else-leads_to}

pub returns-then-leads_nowhere : goal.returns-then-leads_nowhere
returns-then-leads_nowhere c =
    let nowhere = c.leads_nowhere.ensures.0 c.if-leads_nowhere.true in
    items_of_none c.args.meta.now (λ d. leads_of c.args.solution.now c.args.node d ≡ true) _ _ (λ d h. let bad : false ≡ true = sym (nowhere d) ∙ h in cc) c.new.ensures

pub loop-class-init : goal.loop-class-init
loop-class-init c =
    rw (c.from_vec-items.ensures ∙ c.in_ok-with_capacity.ensures.items, c.in_ok-implied.ensures)
    (items_none c.args.meta.now (λ d. leads_of c.args.solution.now c.args.node d ≡ true) (length c.classes-classes.result.now) (ap (λ (cs : List MetaObject). length cs) c.classes-classes.ensures.value))

pub add_all-requires : goal.add_all-requires
add_all-requires c = rw (c.row_at.ensures, c.destroys.ensures) (λ d held. row_low c.args.meta.now c.args.scan.now.closures c.requires.closures c.loop-class.class d _ c.loop-class.invariant.count held)

pub loop-class-preserved : goal.loop-class-preserved
loop-class-preserved c =
    let at = at_index c.classes-classes.result.now c.loop-class.class c.index-classes-class.result c.loop-class-test.true c.index-classes-class.is in
    let is = subst (λ (cs : List MetaObject). slice_get cs c.loop-class.class ≡ Some c.index-classes-class.result) c.classes-classes.ensures.value at in
    elim c.if-leads_to.branch [
      | then-leads_to+then-not-contains+in_ok-name+in_ok-push w ↦
          let row = rw w.destroys.ensures at w.row_at.ensures in
          subst (λ (marks : List Bool). WrittenSoFar c.args.meta.now (λ d. leads_of c.args.solution.now c.args.node d ≡ true) (c.loop-class.class + 1) c.if-leads_to.items marks) (sym w.implied-is)
          (items_yes c.args.meta.now (λ d. leads_of c.args.solution.now c.args.node d ≡ true) c.loop-class.class c.loop-class.items c.loop-class.implied c.loop-class.invariant (item.Closure w.in_ok-name.name) c.if-leads_to.items _
          (sym c.leads_to.ensures ∙ w.if-leads_to.true)
          (λ marked. let held = w.contains.ensures.1 marked in let off = w.if-not-contains.true in cc)
          (record { class = c.index-classes-class.result; is = record { is = is }; named = sym w.in_ok-name.ensures }) (w.items-is ∙ w.in_ok-push.ensures.ok) _ (c.requires.closures.members c.loop-class.class) (rw row at w.add_all.ensures))
      | else-leads_to w ↦
          rw (w.items-is, w.implied-is)
          (items_no c.args.meta.now (λ d. leads_of c.args.solution.now c.args.node d ≡ true) c.loop-class.class c.loop-class.items c.loop-class.implied c.loop-class.invariant
          (λ h. elim w.else-leads_to.branch [
            | else-leads_to-via-then-leads_to+else-not-contains v ↦ v.contains.ensures.0 v.if-not-contains.false
            | else-leads_to-via-else-leads_to v ↦ let off = v.if-leads_to.false in let told = c.leads_to.ensures in absurd (cc)
          ]))
    ]

pub returns : goal.returns
returns c =
    let count = ap (λ (cs : List MetaObject). length cs) c.classes-classes.ensures.value in
    let all : c.loop-class.class ≡ length c.args.meta.now.classes = omega arith in
    subst (λ (n : ℕ). AreItems c.args.meta.now (λ d. leads_of c.args.solution.now c.args.node d ≡ true) n c.loop-class.items) all c.loop-class.invariant.are
