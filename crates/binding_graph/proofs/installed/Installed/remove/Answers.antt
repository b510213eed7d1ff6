use Rattle.std.proofs.Common.{◌≡◌, ◌∙◌, ◌<◌, ℕ, length, None, Some, ap, refl, sym, arith}
use Rattle.std.specs.Map.{lookup}
use Rattle.indexmap.specs.IndexMap.{get}
use Rattle.binding_graph.specs.declared.place.Place.{Place}
use Rattle.binding_graph.specs.Bindings.{without}
use Rattle.binding_graph.specs.code.Graph.{bindings_in, slot_of}
use Rattle.binding_graph.specs.code.Keys.{key_of, same_key}
use Rattle.binding_graph.proofs.Compacting.{Entries}
use Rattle.binding_graph.proofs.Keyed.{without-none}
use Rattle.binding_graph.proofs.Noted.{emptied-keyed, reader-none, same-keyed}
use Rattle.binding_graph.proofs.Slots.{filled-emptied, slot-within}
use Rattle.binding_graph.proofs.installed.Installed.remove.Goals as goal

pub index_mut-requires : goal.index_mut-requires
index_mut-requires c =
    let is : slot_of c.args.self.now c.args.place.now ≡ Some c.in-Some.slot = sym (c.in-Some.ensures.value ∙ ap (get same_key c.args.self.now.by_target) c.key.ensures) in
    let held = c.requires.keyed.placed c.args.place.now c.in-Some.slot is in
    let within : c.in-Some.slot < length c.args.self.now.slots.items = slot-within c.args.self.now.slots.items c.in-Some.slot held.0 held.1 in
    omega (arith, within, c.args.self.now.slots.ok.0)

pub returns-in-Some-clause-left : goal.returns-in-Some-clause-left
returns-in-Some-clause-left c =
    let is : slot_of c.args.self.now c.args.place.now ≡ Some c.in-Some.slot = sym (c.in-Some.ensures.value ∙ ap (get same_key c.args.self.now.by_target) c.key.ensures) in
    let held = c.requires.keyed.placed c.args.place.now c.in-Some.slot is in
    filled-emptied c.args.self.now.slots.items c.in-Some.slot held.0 c.requires.apart held.1 ∙ ap (λ (p : Place). without p (bindings_in c.args.self.now)) held.2

pub returns-in-Some-clause-keyed : goal.returns-in-Some-clause-keyed
returns-in-Some-clause-keyed c =
    let is : slot_of c.args.self.now c.args.place.now ≡ Some c.in-Some.slot = sym (c.in-Some.ensures.value ∙ ap (get same_key c.args.self.now.by_target) c.key.ensures) in
    emptied-keyed c.args.self.now _ c.args.place.now c.in-Some.slot c.requires.keyed is refl
    (ap (get same_key c.swap_remove.new.self) (sym c.key.ensures) ∙ c.swap_remove.ensures.updates.1)
    (λ q f. c.swap_remove.ensures.updates.2 (key_of q) (ap (λ (k : ℕ × ℕ). same_key k (key_of q)) c.key.ensures ∙ f))

pub returns-in_default-clause-left : goal.returns-in_default-clause-left
returns-in_default-clause-left c =
    let none : slot_of c.args.self.now c.args.place.now ≡ None = sym (c.in_default.ensures.value ∙ ap (get same_key c.args.self.now.by_target) c.key.ensures) in
    sym (without-none (bindings_in c.args.self.now) c.args.place.now (reader-none c.args.self.now c.requires.keyed c.args.place.now none))

pub returns-in_default-clause-keyed : goal.returns-in_default-clause-keyed
returns-in_default-clause-keyed c = same-keyed c.args.self.now _ c.requires.keyed refl (λ q. ap (λ (es : Entries). lookup (same_key (key_of q)) es) c.in_default.ensures.unchanged)
