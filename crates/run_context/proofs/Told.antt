-- What an action that can be written down speaks of is there.
use Rattle.std.proofs.Common.{◌≡◌, ℕ, List, Some, slice_get, sym, ap, ◌∙◌, subst}
use Rattle.basic_types.specs.declared.value.Value.{Value}
use Rattle.meta_model.specs.declared.effects.MetaEffects.{MetaEffects}
use Rattle.meta_model.specs.Loaded.{Loaded}
use Rattle.native_slots.specs.declared.action.Action.{Action}
use Rattle.native_slots.specs.declared.action.Action.TheVariants as action
use Rattle.object_tree.specs.declared.object.Object.{Object}
use Rattle.trace_entries.specs.declared.entry.ShownAction.{ShownAction}
use Rattle.machine_rules.specs.Natives.{IsShownAs, set_shown, emit_shown}
use Rattle.machine_rules.specs.There.{IsMember, IsField, LacksMember, LacksField}
use Rattle.machine_rules.proofs.Fields.{some-is}

-- the property and the signal of an action that can be written down are there
pub field-told : {p : Loaded} {objects : List Object} {o : ℕ} {effects : MetaEffects} (a : Action) (line : ShownAction) (k q : ℕ) (v : Value) → IsShownAs p objects o effects a line → a ≡ action.Set k v → Some q ≡ slice_get effects.sets k → LacksField p objects o q → ⊥
field-told {p} {objects} {o} {effects} a line k q v (set_shown {k = j} {q = r} {x = x} {property = f} at field) e is lacks =
    let place : j ≡ k = cc e in
    let number : r ≡ q = some-is at (ap (slice_get effects.sets) place ∙ sym is) in
    lacks x f (subst (λ (n : ℕ). IsField p objects o n x f) number field)
field-told a line k q v (emit_shown at member) e is lacks = absurd (cc e)

pub member-told : {p : Loaded} {objects : List Object} {o : ℕ} {effects : MetaEffects} (a : Action) (line : ShownAction) (k g : ℕ) (vs : List Value) → IsShownAs p objects o effects a line → a ≡ action.Emit k vs → Some g ≡ slice_get effects.emits k → LacksMember p objects o g → ⊥
member-told a line k g vs (set_shown at field) e is lacks = absurd (cc e)
member-told {p} {objects} {o} {effects} a line k g vs (emit_shown {k = j} {g = r} {x = x} {signal = f} at member) e is lacks =
    let place : j ≡ k = cc e in
    let number : r ≡ g = some-is at (ap (slice_get effects.emits) place ∙ sym is) in
    lacks x f (subst (λ (n : ℕ). IsMember p objects o n x f) number member)
