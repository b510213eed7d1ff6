-- What a certificate says of nodes, by their numbers.
use Rattle.std.specs.Prelude.{◌≡◌, ◌↔◌, ℕ, Bool, List, length, Option, Some, Result, Ok, Err, MatchOption, slice_get}
use Rattle.std.specs.List.{AllZip}
use Rattle.meta_model.specs.Loaded.{Loaded}
use Rattle.effect_scan.specs.declared.node.Node.{Node}
use Rattle.effect_scan.specs.Nodes.{nodes_of, IsAt}
use Rattle.rank_check.specs.Valid.{AreClassesThere}
use Rattle.rank_check.specs.Entries.{IsSet, IsReady, place_at}
use Rattle.rank_check.specs.declared.no.No.{No}
use Rattle.settling.specs.declared.certificate.SettlingLine.{SettlingLine}
use Rattle.settling.specs.declared.certificate.SettlingCertificate.{SettlingCertificate}
use Rattle.settling.specs.declared.standings.Standing.{Standing}
use Rattle.settling.specs.declared.tables.Tables.{Tables}
use Rattle.settling.specs.Sets.{IsIn}
use Rattle.settling.specs.Valid.{IsLineOf, HasEachNode, HasNothingElse}
use Rattle.settling.specs.Checks.{IsNo}

-- the node of this number, with the line and the set that are at these places
pub record IsStandingAt (nodes : List Node) (lines : List SettlingLine) (places : List ℕ) (sets : List (Option ℕ)) (n : ℕ) (s : Standing) : Type 0 where
  pub node : slice_get nodes n ≡ Some s.node
  pub place : ℕ
  pub placed : slice_get places n ≡ Some place
  pub line : SettlingLine
  pub stands : slice_get lines place ≡ Some line
  pub rank : s.rank ≡ line.rank
  pub step : s.step ≡ line.step
  pub set : s.set ≡ place_at sets n

pub record AreStandingsAt (nodes : List Node) (lines : List SettlingLine) (places : List ℕ) (sets : List (Option ℕ)) (standings : List Standing) : Type 0 where
  pub count : length standings ≡ length nodes
  pub each : (n : ℕ) (s : Standing) → slice_get standings n ≡ Some s → IsStandingAt nodes lines places sets n s

-- ---- of nodes

-- the node of this number, what its line says, and of which set it is
pub record IsStanding (p : Loaded) (certificate : SettlingCertificate) (n : ℕ) (s : Standing) : Type 0 where
  pub at : IsAt (nodes_of p) s.node n
  pub line : SettlingLine
  pub is : IsLineOf p certificate s.node line
  pub rank : s.rank ≡ line.rank
  pub step : s.step ≡ line.step
  pub set : (k : ℕ) → (s.set ≡ Some k) ↔ IsIn p certificate k s.node

-- a standing for each node, in their order
pub record AreStandings (p : Loaded) (certificate : SettlingCertificate) (standings : List Standing) : Type 0 where
  pub count : length standings ≡ length (nodes_of p)
  pub each : (n : ℕ) (s : Standing) → slice_get standings n ≡ Some s → IsStanding p certificate n s

-- ---- destroy sets

-- the line at a place has a class in its set that isn't there
pub record LacksClass (p : Loaded) (lines : List SettlingLine) : Type 0 where
  pub place : ℕ
  pub line : SettlingLine
  pub stands : slice_get lines place ≡ Some line
  pub none : ¬ AreClassesThere p line.destroys

-- the set of the line at this place
pub record IsSetAt (p : Loaded) (lines : List SettlingLine) (place : ℕ) (set : List Bool) : Type 0 where
  pub line : SettlingLine
  pub stands : slice_get lines place ≡ Some line
  pub is : IsSet p line.destroys set

-- the sets of the lines at these places, or a class isn't there
abbrev pub FindsDestroySets : Loaded → List SettlingLine → List ℕ → Option (List (List Bool)) → Type 0
FindsDestroySets p lines places found = MatchOption found (LacksClass p lines) (λ sets. AllZip (IsSetAt p lines) places sets)

-- the destroy set of the node of this number
pub record IsDestroySet (p : Loaded) (certificate : SettlingCertificate) (n : ℕ) (set : List Bool) : Type 0 where
  pub node : Node
  pub at : IsAt (nodes_of p) node n
  pub line : SettlingLine
  pub is : IsLineOf p certificate node line
  pub is_set : IsSet p line.destroys set

pub record AreDestroySets (p : Loaded) (certificate : SettlingCertificate) (destroys : List (List Bool)) : Type 0 where
  pub count : length destroys ≡ length (nodes_of p)
  pub each : (n : ℕ) (set : List Bool) → slice_get destroys n ≡ Some set → IsDestroySet p certificate n set

-- ---- both

-- the lines name each node once and nothing else, and so do the sets
pub record AreTables (p : Loaded) (certificate : SettlingCertificate) (tables : Tables) : Type 0 where
  pub each_node : HasEachNode p certificate
  pub nothing_else : HasNothingElse p certificate
  pub standings : AreStandings p certificate tables.standings
  pub destroys : AreDestroySets p certificate tables.destroys

abbrev pub GivesTables : Loaded → SettlingCertificate → Result Tables No → Type 0
GivesTables p certificate (Ok tables) = AreTables p certificate tables
GivesTables p certificate (Err reason) = IsReady p → IsNo p certificate reason
