-- Relations between classes, as a set of classes for each, from which closures are made.
use Rattle.std.specs.Prelude.{◌≡◌, ◌↔◌, ◌⊎◌, ℕ, ◌<◌, Bool, List, [], length, slice_index_or}
use Rattle.std.specs.List.{Contains, AllZip}
use Rattle.meta_model.specs.declared.object.MetaOwns.{MetaOwns}
pub use Rattle.class_sets.specs.Marks.{IsMarked, Marks}
use Rattle.effect_scan.specs.Rows.{row}
use Rattle.effect_scan.specs.code.Adding.{Among}
use Rattle.effect_scan.specs.code.NodePlaces.{Lists}

unfoldable pub marks_of : List (List Bool) → ℕ → List Bool
marks_of relation i = slice_index_or relation i []

-- the first class is related to the second
abbrev pub Holds : List (List Bool) → ℕ → ℕ → Type 0
Holds relation i j = IsMarked (marks_of relation i) j

-- n classes
pub record IsSquare (n : ℕ) (relation : List (List Bool)) : Type 0 where
  pub count : length relation ≡ n
  pub width : (i : ℕ) → i < n → length (marks_of relation i) ≡ n

pub record IsEmpty (n : ℕ) (relation : List (List Bool)) : Type 0 where
  pub square : IsSquare n relation
  pub none : (i j : ℕ) → ¬ Holds relation i j

-- just the classes with P were related
pub record Extends (P : ℕ → ℕ → Type 0) (before after : List (List Bool)) : Type 0 where
  pub square : IsSquare (length before) after
  pub holds : (i j : ℕ) → Holds after i j ↔ (Holds before i j ⊎ P i j)

-- the first class is the parent's of this declaration, or below it, the second the child's
abbrev pub OwnsRows : List (List ℕ) → ℕ → MetaOwns → ℕ → ℕ → Type 0
OwnsRows lineage place owns i j = Contains (row lineage owns.parent) i × Contains (row lineage owns.child) j

-- the first class is a parent's of one of these declarations, or below it, the second its child's
abbrev pub IsOwned : List (List ℕ) → List MetaOwns → ℕ → ℕ → Type 0
IsOwned lineage owned = Among (OwnsRows lineage) owned

abbrev pub IsOwn : ℕ → ℕ → ℕ → Type 0
IsOwn n i j = (i < n) × (i ≡ j)

-- the first is related to class k, the second is one of these
abbrev pub Passes : List (List Bool) → ℕ → List Bool → ℕ → ℕ → Type 0
Passes relation k others i j = Holds relation i k × IsMarked others j

-- a chain of what is related leads from the one to the other
pub data Chains (R : ℕ → ℕ → Type 0) : ℕ → ℕ → Type 0 where
  one : {i j : ℕ} → R i j → Chains R i j
  more : {i k j : ℕ} → Chains R i k → R k j → Chains R i j

-- just those classes are related that chains joined before
pub record IsClosed (before after : List (List Bool)) : Type 0 where
  pub square : IsSquare (length before) after
  pub chains : (i j : ℕ) → Holds after i j ↔ Chains (Holds before) i j

-- classes are related by way of numbers below n, and none but those that chains joined before
pub record Closing (n : ℕ) (before after : List (List Bool)) : Type 0 where
  pub square : IsSquare (length before) after
  pub kept : (i j : ℕ) → Holds before i j → Holds after i j
  pub chains : (i j : ℕ) → Holds after i j → Chains (Holds before) i j
  pub closed : (i k j : ℕ) → k < n → Holds after i k → Holds after k j → Holds after i j

-- the classes of each set
abbrev pub AreListed : List (List Bool) → List (List ℕ) → Type 0
AreListed relation lists = AllZip (λ marks list. Lists (IsMarked marks) (length marks) list) relation lists
