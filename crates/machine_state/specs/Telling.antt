-- What is written down where properties change (docs/machine.md, "Bindings"; Qt 6, "Qt Bindable Properties").
use Rattle.std.specs.{Prelude.{◌≡◌, ℕ, not, List, [], ◌∷◌, ◌++◌, filter, filter_map, Option, None, Some, slice_get}, List.{AllZip}}
use Rattle.basic_types.specs.declared.value.Value.{Value}
use Rattle.meta_model.specs.{declared.object.MetaProperty.{MetaProperty}, Loaded.{Loaded}, Members.{IsProperty}}
use Rattle.object_tree.specs.{declared.life.Life.{Life}, declared.object.Object.{Object}, Objects.{Lives}}
use Rattle.prop_bindings.specs.{declared.plans.assignment.Assignment.{Assignment}, Changes.{places_in}}
use Rattle.binding_graph.specs.{declared.place.Place.{Place}, Places.{is_in}}
use Rattle.trace_entries.specs.{declared.entry.Entry.{Entry}, declared.entry.Entry.TheVariants.{At}, declared.entry.EntryKind.{EntryKind}, declared.entry.Shown.{Shown}}
use Rattle.trace_entries.specs.declared.entry.EntryKind.TheVariants as entry_kind
use Rattle.machine_state.specs.{declared.changes.telling.Cause.{Cause}, declared.changes.telling.Cause.TheVariants.{Write, Bind, Follow}, Objects.{shown}}

-- a property of a living object, with its declaration and its value
pub record HasValue (p : Loaded) (objects : List Object) (at : Place) : Type 0 where
  pub object : Object
  pub life : Life
  pub lives : Lives objects at.object object life
  pub property : MetaProperty
  pub is_property : IsProperty p life.class at.property property
  pub value : Value
  pub is_value : slice_get life.values at.property ≡ Some value

-- a property of this name comes to this value
abbrev pub entry_kind_of : Cause → List ℕ → List ℕ → Shown → EntryKind
entry_kind_of Write object property value = entry_kind.Written object property value
entry_kind_of Bind object property value = entry_kind.Bound object property value
entry_kind_of Follow object property value = entry_kind.Followed object property value

-- it is written down with this value
pub record IsToldWith (p : Loaded) (objects : List Object) (depth : ℕ) (cause : Cause) (at : Place) (value : Value) (entry : Entry)
    : Type 0 where
  pub has : HasValue p objects at
  pub is : entry ≡ At depth (entry_kind_of cause has.object.name has.property.name (shown objects value))

-- it is written down with the value that it has now
pub record IsTold (p : Loaded) (objects : List Object) (depth : ℕ) (cause : Cause) (at : Place) (entry : Entry) : Type 0 where
  pub has : HasValue p objects at
  pub is : entry ≡ At depth (entry_kind_of cause has.object.name has.property.name (shown objects has.value))

-- those that change with the ones that are written or bound
abbrev pub others : List Place → List Place → List Place
others written changed = filter (λ q. not (is_in written q)) changed

-- The property that is written or bound is written down, whether it reads as it did or not, and then each other one that
-- changed, whether it has a notify signal or not, in the order in which their bindings were installed.
pub record AreTold (p : Loaded) (objects : List Object) (depth : ℕ) (cause : Cause) (first : Place) (changed : List Place)
    (entries : List Entry) : Type 0 where
  pub line : Entry
  pub lines : List Entry
  pub is_told : IsTold p objects depth cause first line
  pub others_told : AllZip (IsTold p objects depth Follow) (others (first ∷ []) changed) lines
  pub are : entries ≡ line ∷ lines

-- ---- what a rule writes: one property, or those of a group of sets, each of which writes one or, where its path leads to
-- null, none
pub data Assigning : Type 0 where
  Alone : (place : Place) (value : Value) → Assigning
  Grouped : (sets : List (Option Assignment)) → Assigning

abbrev pub writes_of : Assigning → List Assignment
writes_of (Alone place value) = record { place = place; value = value } ∷ []
writes_of (Grouped sets) = filter_map (λ set. set) sets

-- a set of a group is written down with its own value, also where a later one writes the property again
abbrev pub IsSetTold : Loaded → List Object → ℕ → Option Assignment → Entry → Type 0
IsSetTold p objects depth None entry = entry ≡ At depth entry_kind.OnNull
IsSetTold p objects depth (Some set) entry = IsToldWith p objects depth Write set.place set.value entry

-- The group is written down, then its sets in their order, and then each property that changed and wasn't written, in the
-- order in which their bindings were installed.
pub record IsGroupTold (p : Loaded) (objects : List Object) (depth : ℕ) (sets : List (Option Assignment)) (changed : List Place)
    (entries : List Entry) : Type 0 where
  pub lines : List Entry
  pub more : List Entry
  pub sets_told : AllZip (IsSetTold p objects depth) sets lines
  pub others_told : AllZip (IsTold p objects depth Follow) (others (places_in (writes_of (Grouped sets))) changed) more
  pub are : entries ≡ At depth entry_kind.Grouped ∷ lines ++ more

-- what is written down of what a rule writes
abbrev pub IsAssigningTold : Loaded → List Object → ℕ → Assigning → List Place → List Entry → Type 0
IsAssigningTold p objects depth (Alone place value) changed entries = AreTold p objects depth Write place changed entries
IsAssigningTold p objects depth (Grouped sets) changed entries = IsGroupTold p objects depth sets changed entries
