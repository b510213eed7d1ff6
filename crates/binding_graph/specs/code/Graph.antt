-- How the crate keeps the installed bindings: in slots by target, with the readers and the number of each property.
use Rattle.std.specs.Prelude.{◌≡◌, ℕ, ◌<◌, ◌⊎◌, List, [], Option, None, Some, Bool, eqb, true, false}
use Rattle.std.specs.Vec.{vec_len, vec_capacity}
use Rattle.indexmap.specs.IndexMap.{get, spare}
use Rattle.binding_graph.specs.declared.place.Place.{Place}
use Rattle.binding_graph.specs.declared.binding.Binding.{Binding}
use Rattle.binding_graph.specs.declared.graph.Graph.{Graph}
use Rattle.binding_graph.specs.declared.installed.Installed.{Installed}
use Rattle.binding_graph.specs.declared.readers.Readers.{Readers}
use Rattle.binding_graph.specs.declared.touching.Touching.{Touching}
use Rattle.binding_graph.specs.Places.{In}
use Rattle.binding_graph.specs.code.Lists.{has, keys_under}
use Rattle.binding_graph.specs.code.Keys.{key_of, same_key}
use Rattle.binding_graph.specs.code.Slots.{filled, in_slot}
use Rattle.binding_graph.specs.Bindings.{binding_at, AreApart, Reads, touches}
use Rattle.binding_graph.specs.code.BindingRanks.{RankAll, rank_of}

-- ---- the bindings
abbrev pub bindings_in : Installed → List Binding
bindings_in x = filled x.slots.items

-- where the binding of a property is noted to be
abbrev pub slot_of : Installed → Place → Option ℕ
slot_of x p = get same_key x.by_target (key_of p)

-- each is noted under its target, and nothing else is
pub record AreKeyed (x : Installed) : Type 0 where
  pub placed : (p : Place) (i : ℕ) → slot_of x p ≡ Some i → (b : Binding) × (in_slot x.slots.items i ≡ Some b) × (b.target ≡ p)
  pub found : (b : Binding) (i : ℕ) → in_slot x.slots.items i ≡ Some b → slot_of x b.target ≡ Some i

-- one more fits with no allocation
abbrev pub HasRoom : Installed → Type 0
HasRoom x = (0 < spare x.by_target) × (vec_len x.slots < vec_capacity x.slots)

-- ---- the readers of each property
abbrev pub reader_keys : Readers → Place → List (ℕ × ℕ)
reader_keys x m = keys_under same_key x.by_source (key_of m)

-- the property's binding is named as a reader of another
abbrev pub Named : Readers → Place → Place → Type 0
Named x m q = has same_key x.by_source (key_of m) (key_of q) ≡ true

-- nothing is lost
abbrev pub KeepReaders : Readers → Readers → Type 0
KeepReaders old new = (m q : Place) → Named old m q → Named new m q

-- nothing is lost but this reader of this property
abbrev pub LosesOnly : Place → Place → Readers → Readers → Type 0
LosesOnly source reader old new =
    (m q : Place) → Named old m q → Named new m q ⊎ ((source ≡ m) × (reader ≡ q))

-- nothing is lost but this reader, of properties that aren't among these
abbrev pub LosesReader : List Place → Place → Readers → Readers → Type 0
LosesReader kept reader old new =
    (m q : Place) → Named old m q → Named new m q ⊎ ((reader ≡ q) × (In m kept → ⊥))

-- each property that the binding reads names it
abbrev pub AreNamed : Readers → Binding → Type 0
AreNamed x b = (m : Place) → Reads b m → Named x m b.target

-- ---- the bindings that touch each object
abbrev pub target_keys : Touching → ℕ → List (ℕ × ℕ)
target_keys x o = keys_under eqb x.by_object o

-- the property's binding is named as one that touches the object
abbrev pub Touched : Touching → ℕ → Place → Type 0
Touched x o q = has eqb x.by_object o (key_of q) ≡ true

-- the binding is named under each object that it touches
abbrev pub AreTouched : Touching → Binding → Type 0
AreTouched x b = (o : ℕ) → touches o b ≡ true → Touched x o b.target

-- nothing is lost
abbrev pub KeepTouched : Touching → Touching → Type 0
KeepTouched old new = (o : ℕ) (q : Place) → Touched old o q → Touched new o q

-- nothing is lost but this target of this object
abbrev pub LosesTouch : ℕ → Place → Touching → Touching → Type 0
LosesTouch object target old new = (o : ℕ) (q : Place) → Touched old o q → Touched new o q ⊎ ((object ≡ o) × (target ≡ q))

-- nothing is lost but this target, of whatever object
abbrev pub LosesPlace : Place → Touching → Touching → Type 0
LosesPlace target old new = (o : ℕ) (q : Place) → Touched old o q → Touched new o q ⊎ (target ≡ q)

-- nothing is lost but this target, of objects that the binding doesn't touch
abbrev pub LosesTarget : Binding → Place → Touching → Touching → Type 0
LosesTarget kept target old new =
    (o : ℕ) (q : Place) → Touched old o q → Touched new o q ⊎ ((target ≡ q) × (touches o kept ≡ false))

-- the binding, if there is one, touches the object
abbrev pub touches_too : Option Binding → ℕ → Bool
touches_too None o = false
touches_too (Some b) o = touches o b

-- ---- the whole
abbrev pub bindings_of : Graph → List Binding
bindings_of g = bindings_in g.installed

-- each binding is named under the objects that it touches and that pass the test
abbrev pub NamesTouched : (ℕ → Bool) → Graph → Type 0
NamesTouched test g = (q : Place) (b : Binding) (o : ℕ) → binding_at (bindings_of g) q ≡ Some b → touches o b ≡ true → test o ≡ true
    → Touched g.touching o q

-- all but the objects
pub record IsIndexed (g : Graph) : Type 0 where
  pub keyed : AreKeyed g.installed
  pub apart : AreApart (bindings_of g)
  pub ranks : RankAll (binding_at (bindings_of g)) [] g.ranks
  pub readers : (q m : Place) (b : Binding) → binding_at (bindings_of g) q ≡ Some b → Reads b m → Named g.readers m q

pub record IsGraph (g : Graph) : Type 0 where
  pub keyed : AreKeyed g.installed
  pub apart : AreApart (bindings_of g)
  pub ranks : RankAll (binding_at (bindings_of g)) [] g.ranks
  pub readers : (q m : Place) (b : Binding) → binding_at (bindings_of g) q ≡ Some b → Reads b m → Named g.readers m q
  pub touched : NamesTouched (λ o. true) g

-- no binding reads the property
abbrev pub Unread : (Place → Option Binding) → Place → Type 0
Unread F m = (q : Place) (b : Binding) → F q ≡ Some b → Reads b m → ⊥

-- the number of a property whose binding reads the source
abbrev pub RankOfReader : Graph → Place → Place → Option ℕ → Type 0
RankOfReader g q source None = (b : Binding) → binding_at (bindings_of g) q ≡ Some b → Reads b source → ⊥
RankOfReader g q source (Some i) =
    (b : Binding) × (binding_at (bindings_of g) q ≡ Some b) × Reads b source × (rank_of g.ranks q ≡ Some i)
