-- The sets of nodes, by the numbers of nodes.
use Rattle.std.specs.Prelude.{◌≡◌, ◌≢◌, ◌↔◌, ◌⊎◌, ◌<◌, ℕ, Bool, true, false, List, length, Option, Some, MatchOption, slice_get}
use Rattle.std.specs.List.{Contains}
use Rattle.meta_model.specs.Loaded.{Loaded}
use Rattle.effect_scan.specs.Nodes.{nodes_of}
use Rattle.certificate_lang.specs.declared.certificate.NodeName.{NodeName}
use Rattle.rank_check.specs.Entries.{IsNumberNamed, place_at}
use Rattle.settling.specs.declared.certificate.SettlingSet.{SettlingSet}

-- nothing changes but that nodes with P are of the set at this place
pub record Puts (P : ℕ → Type 0) (place : ℕ) (before after : List (Option ℕ)) : Type 0 where
  pub count : length after ≡ length before
  pub each : (n k : ℕ) → (place_at after n ≡ Some k) ↔ ((place_at before n ≡ Some k) ⊎ ((k ≡ place) × P n))

-- no node has this name, or one that has it is of another set
pub record Clashes (p : Loaded) (name : NodeName) (place : ℕ) (before : List (Option ℕ)) : Type 0 where
  pub clash : ((n : ℕ) → ¬ IsNumberNamed p name n) ⊎ ((n : ℕ) × (k : ℕ) × IsNumberNamed p name n × (place_at before n ≡ Some k) × (k ≢ place))

abbrev pub AddsMember : Loaded → NodeName → ℕ → List (Option ℕ) → Bool → List (Option ℕ) → Type 0
AddsMember p name place before true after = ((n : ℕ) × IsNumberNamed p name n) × Puts (IsNumberNamed p name) place before after
AddsMember p name place before false after = Clashes p name place before

-- the node has one of these names
pub record IsAmong (p : Loaded) (members : List NodeName) (n : ℕ) : Type 0 where
  pub name : NodeName
  pub among : Contains members name
  pub named : IsNumberNamed p name n

-- each of these names is that of a node
abbrev pub AreNodes : Loaded → List NodeName → Type 0
AreNodes p members = (name : NodeName) → Contains members name → (n : ℕ) × IsNumberNamed p name n

-- one of these names clashes
pub record HasClash (p : Loaded) (members : List NodeName) (place : ℕ) (before : List (Option ℕ)) : Type 0 where
  pub name : NodeName
  pub among : Contains members name
  pub clash : Clashes p name place before

-- these names are those of nodes, which are of the set at this place now; or one clashes
abbrev pub AddsMembers : Loaded → List NodeName → ℕ → List (Option ℕ) → Bool → List (Option ℕ) → Type 0
AddsMembers p members place before true after = AreNodes p members × Puts (IsAmong p members) place before after
AddsMembers p members place before false after = HasClash p members place before

-- ---- all sets

-- the node is one of the set at this place
pub record IsOfSet (p : Loaded) (sets : List SettlingSet) (k n : ℕ) : Type 0 where
  pub set : SettlingSet
  pub stands : slice_get sets k ≡ Some set
  pub among : IsAmong p set.members n

-- each member of a set is a node, and of one set only
pub record AreDisjoint (p : Loaded) (sets : List SettlingSet) : Type 0 where
  pub nodes : (k : ℕ) (set : SettlingSet) → slice_get sets k ≡ Some set → AreNodes p set.members
  pub apart : (j k n : ℕ) → IsOfSet p sets j n → IsOfSet p sets k n → j ≡ k

-- for each node the place of the one of the first sets that it is of
pub record SetsFirst (p : Loaded) (sets : List SettlingSet) (end : ℕ) (places : List (Option ℕ)) : Type 0 where
  pub counted : length places ≡ length (nodes_of p)
  pub each : (n k : ℕ) → (place_at places n ≡ Some k) ↔ ((k < end) × IsOfSet p sets k n)
  pub nodes : (k : ℕ) (set : SettlingSet) → k < end → slice_get sets k ≡ Some set → AreNodes p set.members

-- for each node the place of the set that it is of
pub record AreSetPlaces (p : Loaded) (sets : List SettlingSet) (places : List (Option ℕ)) : Type 0 where
  pub counted : length places ≡ length (nodes_of p)
  pub each : (n k : ℕ) → (place_at places n ≡ Some k) ↔ IsOfSet p sets k n
  pub disjoint : AreDisjoint p sets

abbrev pub FindsSets : Loaded → List SettlingSet → Option (List (Option ℕ)) → Type 0
FindsSets p sets found = MatchOption found (¬ AreDisjoint p sets) (AreSetPlaces p sets)
