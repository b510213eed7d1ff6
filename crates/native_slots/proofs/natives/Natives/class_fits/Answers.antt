use Rattle.std.proofs.Common.{◌+◌, ◌≤◌, refl, sym, ◌∙◌, ap, subst, map, length, slice_get}
use Rattle.std.proofs.lemmas.Option.{slice_get_read}
use Rattle.native_slots.specs.Misfits.{FitsAmong}
use Rattle.native_slots.proofs.Joining.{FromBefore, no_method, more_methods, all_methods}
use Rattle.native_slots.proofs.natives.Natives.class_fits.Goals as goal

pub loop-method-init : goal.loop-method-init
loop-method-init g c = no_method (map (λ slot. slot.head) c.args.self.now.slots.items) c.args.number c.args.class.now c.args.first

pub loop-method-preserved : goal.loop-method-preserved
loop-method-preserved g c =
    let heads = map (λ slot. slot.head) c.args.self.now.slots.items in
    subst (λ r. FitsAmong heads (FromBefore heads c.args.number c.args.class.now c.args.first (c.loop-method.method + 1)) r) (sym c.first_of-answer.ensures)
    (more_methods heads c.args.number c.args.class.now c.args.first c.loop-method.method c.index-methods-method.result c.loop-method.auto.method
    (ap (λ xs. slice_get xs c.loop-method.method) (sym c.as_slice-methods.ensures) ∙ slice_get_read _ _ _ _ refl c.loop-method-test.true c.index-methods-method.is)
    c.loop-method.answer c.method_fits.result c.loop-method.invariant (rw c.get.ensures at c.method_fits.ensures))

pub returns : goal.returns
returns g c =
    all_methods (map (λ slot. slot.head) c.args.self.now.slots.items) c.args.number c.args.class.now c.args.first c.loop-method.method
    (subst (λ xs. length xs ≤ c.loop-method.method) c.as_slice-methods.ensures c.loop-method-test.false) c.loop-method.answer c.loop-method.invariant
