-- What levels wrote, and that it stays (docs/settling-proof.md, "The invariant", "Each rule keeps it").
use Rattle.std.specs.Prelude.{◌≡◌, ◌≢◌, ◌⊎◌, ℕ, List, [], ◌∷◌, Option, None, Some, slice_get}
use Rattle.std.specs.List.{AllByRecursion}
use Rattle.std.specs.Option.{option_map}
use Rattle.basic_types.specs.declared.value.Value.{Value}
use Rattle.meta_model.specs.Loaded.{Loaded}
use Rattle.meta_model.specs.Sound.{IsSound}
use Rattle.object_tree.specs.declared.object.Object.{Object}
use Rattle.object_tree.specs.Objects.{stored}
use Rattle.object_tree.specs.Seen.{seen, seen_reference}
use Rattle.binding_graph.specs.declared.binding.Binding.{Binding}
use Rattle.binding_graph.specs.declared.place.Place.{Place}
use Rattle.binding_graph.specs.Places.{In}
use Rattle.settling.specs.declared.certificate.SettlingLine.{SettlingLine}
use Rattle.settling.specs.declared.certificate.SettlingCertificate.{SettlingCertificate}
use Rattle.settling.specs.Valid.{IsValid}
use Rattle.settled_runs.specs.Levels.{Carried, Level, AreCosts, Leaves, IsPlaceIn, AreLevels}
use Rattle.settled_runs.specs.Writes.{IsLineAt, AreWritten, IsNoHigher}

-- the values of properties, and how they read
abbrev pub values_of : List Object → Place → Option Value
values_of objects place = stored objects place.object place.property

abbrev pub reads : List Object → Place → Option Value
reads objects place = option_map (seen objects) (values_of objects place)

-- the place's object has died
abbrev pub IsOver : List Object → Place → Type 0
IsOver objects place = seen_reference objects (Some place.object) ≡ None

-- what a level of a set wrote reads as the value that the set carries, unless its object has died
abbrev pub HasWritten : List Object → {certificate : SettlingCertificate} → Level certificate → Type 0
HasWritten objects level =
    (carried : Carried) (place : Place) → level.within ≡ Some carried → level.wrote ≡ Some place →
    IsOver objects place ⊎ (reads objects place ≡ Some (seen objects carried.value))

abbrev pub HaveWritten : List Object → {certificate : SettlingCertificate} → List (Level certificate) → Type 0
HaveWritten objects {certificate} levels = AllByRecursion (λ (level : Level certificate). HasWritten objects level) levels

-- A place that lives and reads otherwise than what the set of the highest level carries was written by no level of it.
abbrev pub WrittenOnce : Type 0
WrittenOnce =
    (p : Loaded) (certificate : SettlingCertificate) (cost : ℕ → ℕ) (classes : ℕ → Option ℕ) (objects : List Object)
    (top : Level certificate) (levels : List (Level certificate)) (carried : Carried) (place : Place) →
    AreCosts p certificate cost → AreLevels p cost classes objects (top ∷ levels) → HaveWritten objects (top ∷ levels) →
    top.within ≡ Some carried → (¬ IsOver objects place) → reads objects place ≢ Some (seen objects carried.value) →
    (j : ℕ) (level : Level certificate) (own : Carried) → slice_get (top ∷ levels) j ≡ Some level → level.within ≡ Some own →
    own.set ≡ carried.set → level.wrote ≢ Some place

-- objects of which only the values of properties are others
pub record AreOnlyWritten (old new : List Object) : Type 0 where
  pub seen_alike : (v : Value) → seen new v ≡ seen old v
  pub over_alike : (place : Place) → IsOver old place → IsOver new place

-- What is written from the highest level keeps what levels wrote: where it leaves the set of that level, if this is in one ..
abbrev pub WrittenStay : Type 0
WrittenStay =
    (p : Loaded) (certificate : SettlingCertificate) (cost : ℕ → ℕ) (classes : ℕ → Option ℕ) (before after : Place → Option Binding)
    (old new : List Object) (written : List Place) (line : SettlingLine) (top : Level certificate) (levels : List (Level certificate)) →
    IsSound p → IsValid p certificate → AreCosts p certificate cost →
    AreWritten p classes before after (values_of old) (values_of new) written → AreOnlyWritten old new →
    ((w : Place) (other : SettlingLine) → In w written → IsLineAt p certificate classes w other → IsNoHigher p line other) →
    Leaves cost top.within top.line line →
    AreLevels p cost classes old (top ∷ levels) → HaveWritten old (top ∷ levels) → HaveWritten new (top ∷ levels)

-- .. or where it is a place of the set, that lives and reads otherwise than what the set carries.
abbrev pub WrittenStayWithin : Type 0
WrittenStayWithin =
    (p : Loaded) (certificate : SettlingCertificate) (cost : ℕ → ℕ) (classes : ℕ → Option ℕ) (before after : Place → Option Binding)
    (old new : List Object) (written : Place) (top : Level certificate) (levels : List (Level certificate)) (carried : Carried) →
    IsSound p → IsValid p certificate → AreCosts p certificate cost →
    AreWritten p classes before after (values_of old) (values_of new) (written ∷ []) → AreOnlyWritten old new →
    top.within ≡ Some carried → IsPlaceIn p certificate classes carried.set written → (¬ IsOver old written) →
    reads old written ≢ Some (seen old carried.value) →
    AreLevels p cost classes old (top ∷ levels) → HaveWritten old (top ∷ levels) → HaveWritten new (top ∷ levels)
