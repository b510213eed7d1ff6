use Rattle.std.proofs.Common.{◌≡◌, refl, sym, ◌∙◌, ap, subst, slice_get, true, false}
use Rattle.std.proofs.lemmas.Option.{slice_get_read}
use Rattle.native_slots.specs.Heads.{is_for}
use Rattle.native_slots.proofs.Finding.{is_here, is_later}
use Rattle.native_slots.proofs.natives.Natives.find.Goals as goal

pub returns-then-is_for : goal.returns-then-is_for
returns-then-is_for g c =
    is_here (λ slot. is_for c.args.class.now c.args.sig.now slot.head) c.args.self.now.slots.items c.loop-place.place c.index-slots-place.result
    (ap (λ xs. slice_get xs c.loop-place.place) (sym c.as_slice-slots.ensures.value) ∙ slice_get_read _ _ _ _ refl c.loop-place-test.true c.index-slots-place.is)
    (subst (λ slot. is_for c.args.class.now c.args.sig.now slot.head ≡ true) (sym c.index-slots-place.is) (sym c.is_for.ensures.value ∙ c.if-is_for.true)) c.loop-place.invariant

pub loop-place-preserved : goal.loop-place-preserved
loop-place-preserved g c =
    is_later (λ slot. is_for c.args.class.now c.args.sig.now slot.head) c.args.self.now.slots.items c.loop-place.place c.index-slots-place.result
    (ap (λ xs. slice_get xs c.loop-place.place) (sym c.as_slice-slots.ensures.value) ∙ slice_get_read _ _ _ _ refl c.loop-place-test.true c.index-slots-place.is)
    (subst (λ slot. is_for c.args.class.now c.args.sig.now slot.head ≡ false) (sym c.index-slots-place.is) (sym c.is_for.ensures.value ∙ c.if-is_for.false)) c.loop-place.invariant
