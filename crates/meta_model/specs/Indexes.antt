-- Indexes of classes and of their members: under a name stands the number of the first that has it (docs/machine.md,
-- "Meta-objects").
use Rattle.std.specs.Prelude.{◌≡◌, ℕ, ◌<◌, List, [], ◌∷◌, ◌++◌, length, Option, Some, None, MatchOption, slice_get, slice_set, replicate}
use Rattle.std.specs.Option.{option_and_then}
use Rattle.std.specs.List.{AllZip}
use Rattle.name_indexes.specs.NamePlaces.{place_in}
use Rattle.name_indexes.specs.CallPlaces.{Index, Layers, place_by, IndexesCalls}
use Rattle.meta_model.specs.declared.object.MetaObject.{MetaObject}
use Rattle.meta_model.specs.declared.object.MetaMethod.{MetaMethod}
use Rattle.meta_model.specs.declared.object.MetaProperty.{MetaProperty}
use Rattle.meta_model.specs.declared.site.MetaSite.{MetaSite}
use Rattle.meta_model.specs.declared.class_index.MemberIndex.{MemberIndex}
use Rattle.meta_model.specs.declared.class_index.ClassIndex.{ClassIndex}
use Rattle.meta_model.specs.declared.object.MetaOwns.{MetaOwns}
use Rattle.meta_model.specs.declared.object.MetaWire.{MetaWire}
use Rattle.meta_model.specs.declared.class_places.ClassPlaces.{ClassPlaces}
use Rattle.name_indexes.specs.Places.{IsPlace, StandsAt}

-- ---- what an index says of what it was made of
abbrev pub IndexesClasses : List MetaObject → Index → Type 0
IndexesClasses classes index = (name : List ℕ) → IsPlace (λ (class : MetaObject). class.name ≡ name) classes (place_in index name)

-- a property has no parameters
abbrev pub IndexesProperties : List MetaProperty → Layers → Type 0
IndexesProperties properties layers =
    (name : List ℕ) → IsPlace (λ (property : MetaProperty). property.name ≡ name) properties (place_by layers 0 name)

-- a method is found by its name and its number of parameters
abbrev pub IndexesMethods : List MetaMethod → Layers → Type 0
IndexesMethods methods layers = IndexesCalls (λ (method : MetaMethod). method.sig.name) (λ (method : MetaMethod). length method.sig.types) methods layers

-- the members of a class, inherited ones too
pub record IndexesMembers (class : MetaObject) (index : MemberIndex) : Type 0 where
  pub properties : IndexesProperties class.properties index.properties
  pub methods : IndexesMethods class.methods index.methods

pub record IsIndexOf (classes : List MetaObject) (index : ClassIndex) : Type 0 where
  pub names : IndexesClasses classes index.classes
  pub members : AllZip IndexesMembers classes index.members

-- ---- what a look-up in the indexes of classes' members answers
abbrev pub property_in : List MemberIndex → ℕ → List ℕ → Option ℕ
property_in members c name = option_and_then (λ (index : MemberIndex). place_by index.properties 0 name) (slice_get members c)

abbrev pub method_in : List MemberIndex → ℕ → List ℕ → ℕ → Option ℕ
method_in members c name count = option_and_then (λ (index : MemberIndex). place_by index.methods count name) (slice_get members c)

-- ---- binding sites
abbrev pub IndexesSites : List MetaSite → Index → Type 0
IndexesSites sites index = (name : List ℕ) → IsPlace (λ (site : MetaSite). site.name ≡ name) sites (place_in index name)

-- ---- what belongs to a class, by the places in a list
-- what an index of classes' items gives: the last item of a class, and the one before an item of the same class
abbrev pub last_of : ClassPlaces → ℕ → Option ℕ
last_of index c = option_and_then (λ place. place) (slice_get index.last c)

abbrev pub before_of : ClassPlaces → ℕ → Option ℕ
before_of index i = option_and_then (λ place. place) (slice_get index.before i)

module _ {X : Type 0} (class_of : X → ℕ) (items : List X) where
  -- an item of class c is at this place
  abbrev pub Belongs : ℕ → ℕ → Type 0
  Belongs c = StandsAt (λ x. class_of x ≡ c) items

  -- of the items in front of a place this is the last one of class c
  pub record IsLast (c end i : ℕ) : Type 0 where
    pub inside : i < end
    pub belongs : Belongs c i
    pub none : (k : ℕ) → k < end → i < k → ¬ Belongs c k

  -- .. where there is one
  abbrev pub IsLastBefore : ℕ → ℕ → Option ℕ → Type 0
  IsLastBefore c end last = MatchOption last ((k : ℕ) → k < end → ¬ Belongs c k) (IsLast c end)

  -- the index is that of the items in front of a place, of so many classes
  pub record IndexesFirst (classes end : ℕ) (index : ClassPlaces) : Type 0 where
    pub classes_counted : length index.last ≡ classes
    pub items_counted : length index.before ≡ end
    pub last : (c : ℕ) → c < classes → IsLastBefore c end (last_of index c)
    pub before : (c i : ℕ) → c < classes → i < end → Belongs c i → IsLastBefore c i (before_of index i)

-- the index is that of all declarations of owners, by the parents' classes
abbrev pub IndexesOwners : List MetaOwns → ℕ → ClassPlaces → Type 0
IndexesOwners owns classes index = IndexesFirst (λ o. o.parent) owns classes (length owns) index

-- the index is that of all wires, by the senders' classes
abbrev pub IndexesWires : List MetaWire → ℕ → ClassPlaces → Type 0
IndexesWires wires classes index = IndexesFirst (λ w. w.sender) wires classes (length wires) index

-- no items, of so many classes
pub record HoldsNone (classes : ℕ) (index : ClassPlaces) : Type 0 where
  pub last : index.last ≡ replicate classes None
  pub before : index.before ≡ []

-- one more item of a class
pub record Adds (old new : ClassPlaces) (c : ℕ) : Type 0 where
  pub before : new.before ≡ old.before ++ last_of old c ∷ []
  pub last : new.last ≡ slice_set old.last c (Some (length old.before))
