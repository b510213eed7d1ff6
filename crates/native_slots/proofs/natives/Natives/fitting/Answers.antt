use Rattle.std.proofs.Common.{◌+◌, ◌≤◌, refl, sym, ◌∙◌, ap, subst, map, length, slice_get}
use Rattle.std.proofs.lemmas.Option.{slice_get_read}
use Rattle.native_slots.specs.Misfits.{FitsAmong}
use Rattle.native_slots.specs.code.Joining.{IsNativeFrom}
use Rattle.native_slots.proofs.Joining.{OfBefore, no_class, more_classes, all_classes}
use Rattle.std.proofs.Common.{IsTrue, Ok}
use Rattle.native_slots.specs.Effects.{accepts}
use Rattle.native_slots.proofs.Promising.{promised_on_ok}
use Rattle.native_slots.proofs.natives.Natives.fitting.Goals as goal

pub loop-number-init : goal.loop-number-init
loop-number-init g c = no_class (map (λ slot. slot.head) c.args.self.now.slots.items) c.args.meta.now

pub loop-number-preserved : goal.loop-number-preserved
loop-number-preserved g c =
    let heads = map (λ slot. slot.head) c.args.self.now.slots.items in
    subst (λ r. FitsAmong heads (OfBefore heads c.args.meta.now (c.loop-number.number + 1)) r) (sym c.first_of-answer.ensures)
    (more_classes heads c.args.meta.now c.loop-number.number c.index-classes-number.result
    (ap (λ xs. slice_get xs c.loop-number.number) (sym c.classes-classes.ensures.value) ∙ slice_get_read _ _ _ _ refl c.loop-number-test.true c.index-classes-number.is)
    c.loop-number.answer c.class_fits-of_class.result c.loop-number.invariant
    (subst (λ n. FitsAmong heads (IsNativeFrom c.loop-number.number c.index-classes-number.result n) c.class_fits-of_class.result) c.method_offset-inherited.ensures c.class_fits-of_class.ensures))

pub returns-clause-exact : goal.returns-clause-exact
returns-clause-exact g c =
    all_classes (map (λ slot. slot.head) c.args.self.now.slots.items) c.args.meta.now c.loop-number.number
    (subst (λ xs. length xs ≤ c.loop-number.number) c.classes-classes.ensures.value c.loop-number-test.false) c.loop-number.answer c.loop-number.invariant

-- each closure keeps the promise that stands beside it
pub returns-clause-promises : goal.returns-clause-promises
returns-clause-promises g c =
    promised_on_ok (λ slot. slot.head) _ c.args.self.now.slots.items c.args.meta.now
    (λ slot arguments reads v h ret.
    slot.within ret.first ret.second (Ok v)
    (subst (λ xs. IsTrue (accepts slot.head.effects ret.first.now xs)) (sym ret.shows.1)
    (subst (λ xs. IsTrue (accepts slot.head.effects xs reads)) (sym ret.shows.0) h))
    ret.says.met)
    c.loop-number.answer (returns-clause-exact g c)
