use Rattle.std.proofs.Common.{◌≡◌, ◌∙◌, ℕ, length, None, ap, refl, sym, subst, arith}
use Rattle.indexmap.specs.IndexMap.{get}
use Rattle.binding_graph.specs.declared.binding.Binding.{Binding}
use Rattle.binding_graph.specs.declared.place.Place.{Place}
use Rattle.binding_graph.specs.Bindings.{AreApart}
use Rattle.binding_graph.specs.code.Graph.{slot_of}
use Rattle.binding_graph.specs.code.Keys.{key_of, same_key}
use Rattle.binding_graph.specs.code.Slots.{filled, in_slot}
use Rattle.binding_graph.proofs.Noted.{AreNoted, keyed-apart, noted-keyed, noted-next, noted-none, noted-packed}
use Rattle.binding_graph.proofs.Slots.{Slots, filled-packed}
use Rattle.binding_graph.proofs.installed.Installed.close_up.Goals as goal

pub loop-slot-init : goal.loop-slot-init
loop-slot-init c =
    record {
      slots = refl;
      noted = subst (λ (os : Slots). AreNoted os 0 (slot_of c.args.self.now)) (sym c.keep_filled.ensures) (noted-packed c.args.self.now c.requires);
    }

pub loop-slot-preserved-in_default : goal.loop-slot-preserved-in_default
loop-slot-preserved-in_default c =
    let empty : in_slot c.keep_filled.new.slots.items c.loop-slot.slot ≡ None = ap (λ (os : Slots). in_slot os c.loop-slot.slot) (sym c.loop-slot.invariant.slots) ∙ sym c.in_default.ensures in
    record {
      slots = c.loop-slot.invariant.slots;
      noted = noted-none c.keep_filled.new.slots.items c.loop-slot.slot (slot_of c.loop-slot.self) empty c.loop-slot.invariant.noted;
    }

pub loop-slot-preserved : goal.loop-slot-preserved
loop-slot-preserved c =
    let b : Binding = c.in-Some.reader.now in
    let apart : AreApart (filled c.keep_filled.new.slots.items) = subst AreApart (sym (filled-packed c.args.self.now.slots.items) ∙ ap filled (sym c.keep_filled.ensures)) (keyed-apart c.args.self.now c.requires) in
    let key : c.key-key.result ≡ key_of b.target = c.key-key.ensures ∙ ap (λ (z : Binding). key_of z.target) c.binding.ensures in
    record {
      slots = c.loop-slot.invariant.slots;
      noted = noted-next c.keep_filled.new.slots.items c.loop-slot.slot (slot_of c.loop-slot.self) (λ (p : Place). get same_key c.insert.new.self (key_of p)) b apart
          (ap (λ (os : Slots). in_slot os c.loop-slot.slot) (sym c.loop-slot.invariant.slots) ∙ sym c.in-Some.ensures)
          (ap (get same_key c.insert.new.self) (sym key) ∙ c.in-Ok.ensures.updates.1)
          (λ q f. c.in-Ok.ensures.updates.2 (key_of q) (ap (λ (k : ℕ × ℕ). same_key k (key_of q)) key ∙ f))
          c.loop-slot.invariant.noted;
    }

pub returns-clause-same : goal.returns-clause-same
returns-clause-same c =
    ap filled (c.loop-slot.invariant.slots ∙ c.keep_filled.ensures) ∙ filled-packed c.args.self.now.slots.items

pub returns-clause-keyed : goal.returns-clause-keyed
returns-clause-keyed c =
    let all = ap length c.loop-slot.invariant.slots in
    noted-keyed c.loop-slot.self c.loop-slot.slot (omega (arith, all, c.loop-slot-test.false, c.len-slot-end.ensures))
    (subst (λ (os : Slots). AreNoted os c.loop-slot.slot (slot_of c.loop-slot.self)) (sym c.loop-slot.invariant.slots) c.loop-slot.invariant.noted)
