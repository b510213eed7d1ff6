-- What a write and a bind change (Qt 6, "Qt Bindable Properties"; docs/machine.md, "Bindings").
use Rattle.std.specs.Prelude.{◌≡◌, not, cond, List, [], ◌∷◌, ◌++◌, filter, map, None, Some}
use Rattle.std.specs.List.{AllByRecursion}
use Rattle.std.specs.Option.{option_map}
use Rattle.basic_types.specs.declared.value.Value.{Value}
use Rattle.object_tree.specs.declared.life.Life.{Life}
use Rattle.object_tree.specs.declared.object.Object.{Object}
use Rattle.object_tree.specs.Seen.{seen}
use Rattle.binding_graph.specs.declared.place.Place.{Place}
use Rattle.prop_bindings.specs.declared.plans.assignment.Assignment.{Assignment}
use Rattle.binding_graph.specs.declared.binding.Binding.{Binding}
use Rattle.prop_bindings.specs.Values.{values_in}
use Rattle.binding_graph.specs.Places.{In, is_in, same_place}
use Rattle.binding_graph.specs.Bindings.{binding_at, without_all, replaced, Settled}

-- ---- objects whose values change
abbrev pub valueless : Object → Object
valueless x = record x { life = option_map (λ (l : Life). record l { values = [] }) x.life }

-- nothing of the objects differs but the values of their properties
abbrev pub DifferInValues : List Object → List Object → Type 0
DifferInValues old new = map valueless new ≡ map valueless old

-- the property reads as it did
abbrev pub ReadsAlike : List Object → List Object → Place → Type 0
ReadsAlike old new p = option_map (seen new) (values_in new p) ≡ option_map (seen old) (values_in old p)

-- those of the properties that changed, in their order
pub data AreChanged (old new : List Object) : List Place → List Place → Type 0 where
  none_changed : AreChanged old new [] []
  one_changed : {p : Place} {ps changed : List Place} → (¬ ReadsAlike old new p) → AreChanged old new ps changed
      → AreChanged old new (p ∷ ps) (p ∷ changed)
  one_stayed : {p : Place} {ps changed : List Place} → ReadsAlike old new p → AreChanged old new ps changed
      → AreChanged old new (p ∷ ps) changed

-- each property once, where it stands first
abbrev pub once : List Place → List Place
once [] = []
once (p ∷ ps) = p ∷ filter (λ q. not (same_place q p)) (once ps)

-- the properties that are written or bound, then the other bound ones in the order in which their bindings were installed
abbrev pub in_order : List Place → List Binding → List Place
in_order ps bs = once ps ++ map (λ (b : Binding). b.target) (without_all ps bs)

-- ---- a write
-- a write of one property
abbrev pub one : Place → Value → List Assignment
one p v = record { place = p; value = v } ∷ []

-- the properties that are written
abbrev pub places_in : List Assignment → List Place
places_in writes = map (λ (a : Assignment). a.place) writes

-- of each property the value that is written last
abbrev pub lasting : List Assignment → List Assignment
lasting [] = []
lasting (a ∷ rest) = cond (is_in (places_in rest) a.place) (lasting rest) (a ∷ lasting rest)

-- The bindings of the written properties go, and each has the value that is written last. All bound properties have their
-- expressions' values, and every other one keeps its own.
pub record IsWritten (bs cs : List Binding) (old new : List Object) (writes : List Assignment) (changed : List Place)
    : Type 0 where
  pub bindings : cs ≡ without_all (places_in writes) bs
  pub objects : DifferInValues old new
  pub written : AllByRecursion (λ (a : Assignment). values_in new a.place ≡ Some a.value) (lasting writes)
  pub settled : Settled (binding_at cs) (values_in new)
  pub kept : (q : Place) → binding_at cs q ≡ None → (¬ In q (places_in writes)) → values_in new q ≡ values_in old q
  pub changes : AreChanged old new (in_order (places_in writes) bs) changed

-- ---- a bind
-- The binding stands last, in place of its target's old one; nothing is said of whether it closes a chain. All bound
-- properties have their expressions' values, and every other one keeps its own.
pub record IsInstalled (bs cs : List Binding) (old new : List Object) (b : Binding) (changed : List Place) : Type 0 where
  pub bindings : cs ≡ replaced bs b
  pub objects : DifferInValues old new
  pub settled : Settled (binding_at cs) (values_in new)
  pub kept : (q : Place) → binding_at cs q ≡ None → values_in new q ≡ values_in old q
  pub changes : AreChanged old new (in_order (b.target ∷ []) bs) changed

-- ---- a part of a write
-- each property has the value that is written last
abbrev pub HaveLasting : List Object → List Assignment → Type 0
HaveLasting objects writes = AllByRecursion (λ (a : Assignment). values_in objects a.place ≡ Some a.value) (lasting writes)
