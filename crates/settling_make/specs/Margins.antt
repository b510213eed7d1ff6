-- What the components of a program ask of ranks and steps, by their sets (docs/settling.md, "The check").
use Rattle.std.specs.Prelude.{◌≡◌, ◌⊎◌, ◌<◌, ◌*◌, ℕ, List, length, Option, Some, None, slice_get}
use Rattle.meta_model.specs.Loaded.{Loaded}
use Rattle.effect_scan.specs.declared.node.Node.{Node}
use Rattle.rank_check.specs.Entries.{place_at}
use Rattle.settling.specs.declared.certificate.SettlingSet.{SettlingSet}
use Rattle.settling.specs.declared.standings.Standing.{Standing}
use Rattle.settling.specs.Sets.{ArePropertiesOf, HasAtMost}
use Rattle.settling_make.specs.declared.components.Components.{Components}
use Rattle.settling_make.specs.declared.margin.Margin.{Margin}
use Rattle.settling_make.specs.declared.sets.Sets.{Sets}
use Rattle.settling_make.specs.Components.{number_of}
use Rattle.settling_make.specs.Fits.{no_margin}

-- a class has so many properties of the set
pub record HasMany (p : Loaded) (set : SettlingSet) (most : ℕ) : Type 0 where
  pub class : ℕ
  pub properties : List ℕ
  pub are : ArePropertiesOf p set class properties
  pub many : length properties ≡ most

-- what the set asks: ranks above 0 that lie less than its round apart, and a step of its round for each of the most properties that
-- a class has of it, or for one
pub record IsMarginOf (p : Loaded) (set : SettlingSet) (margin : Margin) : Type 0 where
  pub least : margin.least ≡ 1
  pub round : margin.round ≡ set.round
  pub most : ℕ
  pub cost : margin.cost ≡ set.round * most
  pub some : 0 < most
  pub at_most : HasAtMost p set most
  pub met : (most ≡ 1) ⊎ HasMany p set most

-- what the component asks whose set is at this place, if it is one
abbrev pub Asks : Loaded → List SettlingSet → Option ℕ → Margin → Type 0
Asks p sets None margin = margin ≡ no_margin
Asks p sets (Some i) margin = (set : SettlingSet) → slice_get sets i ≡ Some set → IsMarginOf p set margin

-- .. of each of the first components
pub record AreMarginsTo (p : Loaded) (made : Sets) (end : ℕ) (margins : List Margin) : Type 0 where
  pub count : length margins ≡ end
  pub each : (k : ℕ) (margin : Margin) → slice_get margins k ≡ Some margin → Asks p made.sets (place_at made.places k) margin

-- .. of all
abbrev pub AreMarginsOf : Loaded → Components → Sets → List Margin → Type 0
AreMarginsOf p found made margins = AreMarginsTo p made (length found.sets) margins

-- ---- nodes with their sets
-- the node of this number, with the place of its component's set, if that is one
pub record IsPlacedAt (nodes : List Node) (numbers : List ℕ) (places : List (Option ℕ)) (n : ℕ) (s : Standing) : Type 0 where
  pub node : slice_get nodes n ≡ Some s.node
  pub set : s.set ≡ place_at places (number_of numbers n)

-- the first nodes
pub record ArePlacedTo (nodes : List Node) (numbers : List ℕ) (places : List (Option ℕ)) (end : ℕ) (standings : List Standing) : Type 0 where
  pub count : length standings ≡ end
  pub each : (n : ℕ) (s : Standing) → slice_get standings n ≡ Some s → IsPlacedAt nodes numbers places n s
