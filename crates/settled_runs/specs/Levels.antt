-- How high activations stand where a settling certificate is valid (docs/settling-proof.md, "The invariant", "The depth").
use Rattle.std.specs.Prelude.{◌≡◌, ℕ, ◌+◌, ◌*◌, ◌<◌, ◌≤◌, eqb, cond, List, [], ◌∷◌, length, Option, None, Some, slice_get}
use Rattle.basic_types.specs.declared.value.Value.{Value}
use Rattle.meta_model.specs.Loaded.{Loaded}
use Rattle.object_tree.specs.declared.object.Object.{Object}
use Rattle.object_tree.specs.Seen.{seen}
use Rattle.effect_scan.specs.declared.node.Node.{Node}
use Rattle.binding_graph.specs.declared.place.Place.{Place}
use Rattle.binding_graph.specs.Places.{In}
use Rattle.settling.specs.declared.certificate.SettlingLine.{SettlingLine}
use Rattle.settling.specs.declared.certificate.SettlingSet.{SettlingSet}
use Rattle.settling.specs.declared.certificate.SettlingCertificate.{SettlingCertificate}
use Rattle.settling.specs.Sets.{IsIn}
use Rattle.settling.specs.Valid.{IsLineOf, Destroys, IsRound}
use Rattle.settled_runs.specs.Writes.{IsAtNode}

-- ---- levels

-- the set in which an activation is, by its number, and the value that it carries
pub record Carried : Type 0 where
  pub set : ℕ
  pub value : Value

-- A rank below the bound, a step that isn't above the certificate's, and a destroy set, as a line would have them; the set in
-- which the activation is, if it is in one; and the place of the set that was written, where this is the update after it.
pub record Level (certificate : SettlingCertificate) : Type 0 where
  pub line : SettlingLine
  pub low : line.rank < certificate.bound
  pub small : line.step ≤ certificate.step
  pub within : Option Carried
  pub wrote : Option Place

-- the places that the levels of a set wrote, from the top down to the first that isn't of the set
abbrev pub and_place : Option Place → List Place → List Place
and_place None places = places
and_place (Some place) places = place ∷ places

abbrev pub if_within : ℕ → Option Carried → List Place → List Place
if_within k None places = []
if_within k (Some carried) places = cond (eqb carried.set k) places []

abbrev pub written_in : {certificate : SettlingCertificate} → ℕ → List (Level certificate) → List Place
written_in k [] = []
written_in k (level ∷ levels) = if_within k level.within (and_place level.wrote (written_in k levels))

-- ---- one level above another

-- What is left of the rank's fall within a set: it falls but where a place of the set was written, and then it rises by less
-- than the round, and no level below of the set wrote the same place.
pub data Turns {certificate : SettlingCertificate} (set : SettlingSet) (k : ℕ) (levels : List (Level certificate)) (lower upper : Level certificate) : Type 0 where
  falls : upper.wrote ≡ None → upper.line.rank < lower.line.rank → Turns set k levels lower upper
  writes : {place : Place} → upper.wrote ≡ Some place → upper.line.rank < lower.line.rank + set.round → ¬ In place (written_in k levels)
      → Turns set k levels lower upper

-- both are in one set, and carry one value, as it reads
pub record IsInside (objects : List Object) {certificate : SettlingCertificate} (levels : List (Level certificate)) (lower upper : Level certificate) : Type 0 where
  pub carried : Carried
  pub is : lower.within ≡ Some carried
  pub above : Carried
  pub is_above : upper.within ≡ Some above
  pub one : above.set ≡ carried.set
  pub value : seen objects above.value ≡ seen objects carried.value
  pub set : SettlingSet
  pub stands : slice_get certificate.sets carried.set ≡ Some set
  pub step : upper.line.step ≡ lower.line.step
  pub turns : Turns set carried.set levels lower upper

-- what each set adds for an object: its round, times the most of its properties that a class has
abbrev pub AreCosts : Loaded → SettlingCertificate → (ℕ → ℕ) → Type 0
AreCosts p certificate cost =
    (k : ℕ) (set : SettlingSet) → slice_get certificate.sets k ≡ Some set → (round : IsRound p certificate set) × (cost k ≡ set.round * round.most)

-- the lower one is in no set, or its set is left: then the step falls by what it adds
abbrev pub Leaves : (ℕ → ℕ) → Option Carried → SettlingLine → SettlingLine → Type 0
Leaves cost None lower upper = upper.step ≤ lower.step
Leaves cost (Some carried) lower upper = upper.step + cost carried.set ≤ lower.step

pub record IsApart (cost : ℕ → ℕ) {certificate : SettlingCertificate} (lower upper : Level certificate) : Type 0 where
  pub rank : upper.line.rank < lower.line.rank
  pub step : Leaves cost lower.within lower.line upper.line

pub data Climbs (cost : ℕ → ℕ) (objects : List Object) {certificate : SettlingCertificate} (levels : List (Level certificate)) (lower upper : Level certificate) : Type 0 where
  inside : IsInside objects levels lower upper → Climbs cost objects levels lower upper
  apart : IsApart cost lower upper → Climbs cost objects levels lower upper

-- it stands on what is below it, if anything is: it climbs from there, and its destroy set lies in that one's
pub record StandsOn (p : Loaded) (cost : ℕ → ℕ) (objects : List Object) {certificate : SettlingCertificate} (levels : List (Level certificate)) (lower upper : Level certificate) : Type 0 where
  pub climbs : Climbs cost objects levels lower upper
  pub set : (d : ℕ) → ¬ Destroys p lower.line d → ¬ Destroys p upper.line d

abbrev pub FallsTo : Loaded → (ℕ → ℕ) → List Object → {certificate : SettlingCertificate} → List (Level certificate) → Level certificate → Type 0
FallsTo p cost objects [] upper = Unit {0}
FallsTo p cost objects (level ∷ levels) upper = StandsOn p cost objects (level ∷ levels) level upper

-- ---- levels in sets

-- the place is of the set, and its object was made
pub record IsPlaceIn (p : Loaded) (certificate : SettlingCertificate) (classes : ℕ → Option ℕ) (k : ℕ) (place : Place) : Type 0 where
  pub node : Node
  pub at : IsAtNode classes place node
  pub is : IsIn p certificate k node

-- a level in a set has the step of a node of it, and what it wrote is of the set
pub record IsOfSet (p : Loaded) {certificate : SettlingCertificate} (classes : ℕ → Option ℕ) (k : ℕ) (level : Level certificate) : Type 0 where
  pub node : Node
  pub member : IsIn p certificate k node
  pub line : SettlingLine
  pub is : IsLineOf p certificate node line
  pub step : level.line.step ≡ line.step
  pub places : (place : Place) → level.wrote ≡ Some place → IsPlaceIn p certificate classes k place

abbrev pub IsWell : (p : Loaded) {certificate : SettlingCertificate} → (ℕ → Option ℕ) → Level certificate → Type 0
IsWell p classes level = (carried : Carried) → level.within ≡ Some carried → IsOfSet p classes carried.set level

-- ---- a stack of them, the top first
abbrev pub AreLevels : (p : Loaded) {certificate : SettlingCertificate} → (ℕ → ℕ) → (ℕ → Option ℕ) → List Object → List (Level certificate) → Type 0
AreLevels p cost classes objects [] = Unit {0}
AreLevels p cost classes objects (level ∷ levels) = IsWell p classes level × FallsTo p cost objects levels level × AreLevels p cost classes objects levels

-- they are no more than the bound, and the step for each object that was made
abbrev pub LevelsAreShallow : Type 0
LevelsAreShallow =
    (p : Loaded) (certificate : SettlingCertificate) (cost : ℕ → ℕ) (classes : ℕ → Option ℕ) (objects : List Object) (levels : List (Level certificate)) →
    AreCosts p certificate cost → ((o class : ℕ) → classes o ≡ Some class → o < length objects) →
    AreLevels p cost classes objects levels → length levels ≤ certificate.bound + certificate.step * length objects

-- levels of one set carry one value, as it reads
abbrev pub LevelsCarryOne : Type 0
LevelsCarryOne =
    (p : Loaded) (certificate : SettlingCertificate) (cost : ℕ → ℕ) (classes : ℕ → Option ℕ) (objects : List Object) (levels : List (Level certificate)) →
    AreCosts p certificate cost → AreLevels p cost classes objects levels →
    (i j : ℕ) (a b : Level certificate) (here there : Carried) → slice_get levels i ≡ Some a → slice_get levels j ≡ Some b →
    a.within ≡ Some here → b.within ≡ Some there → here.set ≡ there.set → seen objects here.value ≡ seen objects there.value
