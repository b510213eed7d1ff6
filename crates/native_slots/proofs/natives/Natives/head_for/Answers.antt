use Rattle.std.proofs.Common.{refl, sym, ◌∙◌, ap}
use Rattle.std.specs.Option.{option_map}
use Rattle.std.proofs.lemmas.Option.{slice_get_read}
use Rattle.native_slots.proofs.Asking.{heads_found}
use Rattle.native_slots.proofs.Finding.{find_placed, find_missing, placed_within}
use Rattle.native_slots.proofs.natives.Natives.head_for.Goals as goal

pub returns-in-Some : goal.returns-in-Some
returns-in-Some g c =
    let at = sym c.find.ensures ∙ c.in-Some.is in
    sym (heads_found (λ slot. slot.head) c.args.self.now.slots.items c.args.class.now c.args.sig.now
    ∙ ap (option_map (λ slot. slot.head)) (find_placed _ c.args.self.now.slots.items c.in-Some.place at ∙ slice_get_read _ _ _ _ refl (placed_within _ c.args.self.now.slots.items c.in-Some.place at) c.index.ensures))

pub returns-in-None : goal.returns-in-None
returns-in-None g c =
    sym (heads_found (λ slot. slot.head) c.args.self.now.slots.items c.args.class.now c.args.sig.now
    ∙ ap (option_map (λ slot. slot.head)) (find_missing _ c.args.self.now.slots.items (sym c.find.ensures ∙ c.in-None.is)))
