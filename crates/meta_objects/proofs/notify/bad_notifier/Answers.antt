use Rattle.std.proofs.Common.{◌≡◌, ℕ, suc, ◌+◌, ◌<◌, List, length, slice_get, Some, Any, refl, sym, ap, subst, arith}
use Rattle.std.proofs.lemmas.Option.{slice_get_read, slice_get_within}
use Rattle.syntax_trees.specs.declared.program.Property.{Property}
use Rattle.syntax_trees.specs.declared.program.Class.{Class}
use Rattle.class_outlines.specs.declared.fault.MetaFault.TheVariants as fault
use Rattle.class_outlines.specs.declared.outline.Outline.{Outline}
use Rattle.class_outlines.specs.Notifiers.{LacksNotifier}
use Rattle.class_outlines.proofs.Offending.{item_at, within, offends_from}
use Rattle.meta_objects.proofs.OwnMembers.{next_own, notifies_badly, none_notifies_badly}
use Rattle.meta_objects.proofs.notify.bad_notifier.Goals as goal

pub bounds-outlines-place : goal.bounds-outlines-place
bounds-outlines-place c =
    let inside = ap (λ (cs : List Class). length cs) c.as_slice-class-items.ensures in omega (arith, inside, c.loop-number-test.true, c.requires.counted)

pub loop-number-preserved : goal.loop-number-preserved
loop-number-preserved c =
    let inside = ap (λ (cs : List Class). length cs) c.as_slice-class-items.ensures in
    let at = item_at (λ (x : Class). Unit {0}) c.args.program.now.classes c.as_slice-class-items.result.now c.as_slice-class-items.ensures c.loop-number.number c.class-item.result c.loop-number-test.true c.class-item.is in
    let at_o : slice_get c.args.outlines.now (suc c.loop-number.number) ≡ Some c.index-outlines-place.result =
    subst (λ (n : ℕ). slice_get c.args.outlines.now n ≡ Some c.index-outlines-place.result) (omega arith)
    (slice_get_read c.args.outlines.now (length c.args.outlines.now) (c.loop-number.number + 1) c.index-outlines-place.result refl
    (omega (arith, inside, c.loop-number-test.true, c.requires.counted)) c.index-outlines-place.is) in
    next_own (λ (class : Class) (o : Outline). Any (λ (p : Property). LacksNotifier o p p.notify) class.properties) c.args.program.now.classes c.args.outlines.now
    c.loop-number.number c.class-item.result c.index-outlines-place.result at at_o c.in_default.ensures c.loop-number.invariant

pub returns-in-Some : goal.returns-in-Some
returns-in-Some c =
    let inside = ap (λ (cs : List Class). length cs) c.as_slice-class-items.ensures in
    let at = item_at (λ (x : Class). Unit {0}) c.args.program.now.classes c.as_slice-class-items.result.now c.as_slice-class-items.ensures c.loop-number.number c.class-item.result c.loop-number-test.true c.class-item.is in
    let at_o : slice_get c.args.outlines.now (suc c.loop-number.number) ≡ Some c.index-outlines-place.result =
    subst (λ (n : ℕ). slice_get c.args.outlines.now n ≡ Some c.index-outlines-place.result) (omega arith)
    (slice_get_read c.args.outlines.now (length c.args.outlines.now) (c.loop-number.number + 1) c.index-outlines-place.result refl
    (omega (arith, inside, c.loop-number-test.true, c.requires.counted)) c.index-outlines-place.is) in (
      notifies_badly c.args.program.now.classes c.args.outlines.now c.requires c.loop-number.number c.class-item.result c.index-outlines-place.result at at_o c.in-Some.ensures.0,
      offends_from c.args.program.now c.loop-number.number c.class-item.result fault.BadNotify c.in-Some.offence at c.in-Some.ensures.1,
    )

pub returns : goal.returns
returns c =
    let inside = ap (λ (cs : List Class). length cs) c.as_slice-class-items.ensures in
    none_notifies_badly c.args.program.now.classes c.args.outlines.now c.requires
    (λ i class o is e. let low = slice_get_within c.args.program.now.classes i class is in
    c.loop-number.invariant i (omega (arith, inside, low, c.loop-number-test.false)) class is o e)
