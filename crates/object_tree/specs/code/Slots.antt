-- The slots in which objects are kept while they live or have a living child (docs/machine.md, "Objects").
use Rattle.std.specs.Prelude.{◌≡◌, ℕ, suc, ◌+◌, eqb, Bool, true, false, not, List, [], ◌∷◌, Option, None, Some, count_by, slice_get, if◌then◌else◌}
use Rattle.std.specs.Option.{option_map}
use Rattle.slab.specs.Slab.{Slab, get, slab_len}
use Rattle.object_tree.specs.declared.object.Object.{Object}
use Rattle.object_tree.specs.declared.slot.Slot.{Slot}
use Rattle.object_tree.specs.declared.slot.ObjectRecord.{ObjectRecord}
use Rattle.object_tree.specs.Children.{are_distinct}
use Rattle.object_tree.specs.Held.{is_held}

-- an object that is dead and has no living child: only its name is left
abbrev pub gone : List ℕ → Object
gone name = record { name = name; children = []; life = None }

-- the object of a number in a slot, if the slot is still its own
abbrev pub object_in : ℕ → Option Slot → Option Object
object_in n None = None
object_in n (Some slot) = if eqb slot.serial n then Some slot.object else None

-- the object, or one that is gone where there is none
abbrev pub or_gone : List ℕ → Option Object → Object
or_gone name None = gone name
or_gone name (Some x) = x

abbrev pub object_at : Slab Slot → ℕ → ObjectRecord → Object
object_at slots n e = or_gone e.name (object_in n (get slots e.key))

-- the objects from a number on
abbrev pub shown_from : Slab Slot → ℕ → List ObjectRecord → List Object
shown_from slots n [] = []
shown_from slots n (e ∷ es) = object_at slots n e ∷ shown_from slots (suc n) es

abbrev pub key_at : List ObjectRecord → ℕ → Option ℕ
key_at entries n = option_map (λ (e : ObjectRecord). e.key) (slice_get entries n)

abbrev pub name_at : List ObjectRecord → ℕ → Option (List ℕ)
name_at entries n = option_map (λ (e : ObjectRecord). e.name) (slice_get entries n)

-- a slot is that of an object which is dead and has no living child
abbrev pub is_idle : Option Slot → Bool
is_idle None = false
is_idle (Some slot) = not (is_held slot.object)

abbrev pub as_number : Bool → ℕ
as_number b = if b then 1 else 0

-- the slot of a new object with this number
abbrev pub new_slot : ℕ → Object → Slot
new_slot n object = record { serial = n; adoption = 0; object = object }

-- the number under which the object of a slot was adopted
abbrev pub adoption_in : Option Slot → ℕ
adoption_in None = 0
adoption_in (Some slot) = slot.adoption

-- the number of an adoption stays
abbrev pub as_it_was : ℕ → ℕ
as_it_was a = a

-- the slot of this number's object with the object changed, and the number of its adoption
abbrev pub changed_in : ℕ → (ℕ → ℕ) → (Object → Object) → Slot → Slot
changed_in n g f slot = record slot {
  adoption = if eqb slot.serial n then g slot.adoption else slot.adoption;
  object = if eqb slot.serial n then f slot.object else slot.object;
}

-- no child appears twice among the children of an object
abbrev pub AreDistinctIn : Option Object → Type 0
AreDistinctIn None = Unit {0}
AreDistinctIn (Some x) = are_distinct x.children ≡ true

-- the slots after the object of a number was changed, if the slot of this key is its own
pub record Changes (key n : ℕ) (g : ℕ → ℕ) (f : Object → Object) (old new : Slab Slot) : Type 0 where
  pub slots : (k : ℕ) → get new k ≡ (if eqb k key then option_map (changed_in n g f) (get old k) else get old k)
  pub len : slab_len new ≡ slab_len old

-- the slots after such a change of the object, which leaves the number of its adoption
abbrev pub Writes : ℕ → ℕ → (Object → Object) → Slab Slot → Slab Slot → Type 0
Writes key n f old new = Changes key n as_it_was f old new

-- the same slots
pub record KeepsSlots (old new : Slab Slot) : Type 0 where
  pub slots : (k : ℕ) → get new k ≡ get old k
  pub len : slab_len new ≡ slab_len old

-- the slots after that of this key was given up, if it had no use
pub record GivesUp (key : ℕ) (old new : Slab Slot) : Type 0 where
  pub slots : (k : ℕ) → get new k ≡ (if eqb k key then (if is_idle (get old k) then None else get old k) else get old k)
  pub len : slab_len new + as_number (is_idle (get old key)) ≡ slab_len old

-- Each slot in use has an object that lives or has a living child, with its number and its name, and each such object has
-- a slot.
pub record AreHoused (slots : Slab Slot) (entries : List ObjectRecord) : Type 0 where
  pub named : (k : ℕ) (slot : Slot) → get slots k ≡ Some slot → name_at entries slot.serial ≡ Some slot.object.name
  pub held : (k : ℕ) (slot : Slot) → get slots k ≡ Some slot → is_held slot.object ≡ true
  pub count : slab_len slots ≡ count_by is_held (shown_from slots 0 entries)
