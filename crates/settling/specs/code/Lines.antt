-- The places of the lines of nodes.
use Rattle.std.specs.Prelude.{◌≡◌, ◌<◌, ℕ, Bool, true, false, List, length, Option, Some, None, MatchBool, MatchOption, slice_get, slice_set}
use Rattle.std.specs.List.{AllZip}
use Rattle.meta_model.specs.Loaded.{Loaded}
use Rattle.effect_scan.specs.Nodes.{nodes_of}
use Rattle.certificate_lang.specs.declared.certificate.NodeName.{NodeName}
use Rattle.rank_check.specs.Entries.{IsNumberNamed, place_at, LacksPlace}
use Rattle.settling.specs.declared.certificate.SettlingLine.{SettlingLine}
use Rattle.settling.specs.declared.lines.LinePlaces.{LinePlaces}
use Rattle.settling.specs.declared.places.Noted.{Noted}
use Rattle.settling.specs.declared.places.Noted.TheVariants.{NoNode, First, Before}

-- the line at this place is for node n
pub record IsLineFor (p : Loaded) (lines : List SettlingLine) (k n : ℕ) : Type 0 where
  pub line : SettlingLine
  pub stands : slice_get lines k ≡ Some line
  pub named : IsNumberNamed p line.node n

-- each line is for a node, and no two are for one
pub record AreApart (p : Loaded) (lines : List SettlingLine) : Type 0 where
  pub nodes : (k : ℕ) → k < length lines → (n : ℕ) × IsLineFor p lines k n
  pub once : (j k n : ℕ) → IsLineFor p lines j n → IsLineFor p lines k n → j ≡ k

-- the node of this name, which is the only one, had no place, and has this one now
pub record PutsPlace (p : Loaded) (name : NodeName) (place : ℕ) (before after : List (Option ℕ)) : Type 0 where
  pub number : ℕ
  pub named : IsNumberNamed p name number
  pub only : (n : ℕ) → IsNumberNamed p name n → n ≡ number
  pub none : place_at before number ≡ None
  pub put : after ≡ slice_set before number (Some place)

-- .. had this place
pub record HadPlace (p : Loaded) (name : NodeName) (other : ℕ) (before : List (Option ℕ)) : Type 0 where
  pub number : ℕ
  pub named : IsNumberNamed p name number
  pub only : (n : ℕ) → IsNumberNamed p name n → n ≡ number
  pub had : place_at before number ≡ Some other

-- what came of noting a place for the node of this name
abbrev pub NotesPlace : Loaded → NodeName → ℕ → List (Option ℕ) → Noted → List (Option ℕ) → Type 0
NotesPlace p name place before NoNode after = (after ≡ before) × ((n : ℕ) → ¬ IsNumberNamed p name n)
NotesPlace p name place before First after = PutsPlace p name place before after
NotesPlace p name place before (Before other) after = (after ≡ before) × HadPlace p name other before

-- the place was put; or no node of this name lacked one
abbrev pub AddsLine : Loaded → NodeName → ℕ → List (Option ℕ) → Bool → List (Option ℕ) → Type 0
AddsLine p name place before true after = PutsPlace p name place before after
AddsLine p name place before false after = (after ≡ before) × ((n : ℕ) → IsNumberNamed p name n → ¬ (place_at before n ≡ None))

-- for each node the place of a line that is for it, where one of the first lines is
pub record PlacesFirst (p : Loaded) (lines : List SettlingLine) (end : ℕ) (places : List (Option ℕ)) : Type 0 where
  pub counted : length places ≡ length (nodes_of p)
  pub is_for : (n k : ℕ) → place_at places n ≡ Some k → (k < end) × IsLineFor p lines k n
  pub each : (n k : ℕ) → k < end → IsLineFor p lines k n → ¬ (place_at places n ≡ None)

-- .. and whether the lines are apart
pub record PlacesLines (p : Loaded) (lines : List SettlingLine) (made : LinePlaces) : Type 0 where
  pub are : PlacesFirst p lines (length lines) made.places
  pub apart : MatchBool made.apart (AreApart p lines) (¬ AreApart p lines)

-- all the places, where each node has one
abbrev pub FindsAll : List (Option ℕ) → Option (List ℕ) → Type 0
FindsAll places found = MatchOption found ((n : ℕ) × LacksPlace places n) (λ all. AllZip (λ place k. place ≡ Some k) places all)

-- for each node the place of a line that is for it
pub record ArePlaced (p : Loaded) (lines : List SettlingLine) (places : List ℕ) : Type 0 where
  pub counted : length places ≡ length (nodes_of p)
  pub is_for : (n k : ℕ) → slice_get places n ≡ Some k → IsLineFor p lines k n
