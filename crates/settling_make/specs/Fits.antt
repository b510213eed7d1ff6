-- Which ranks and steps fit the components of a program, by numbers (docs/settling.md, "The check" and "The maker").
use Rattle.std.specs.Prelude.{◌≡◌, ◌≢◌, ◌⊎◌, ◌<◌, ◌≤◌, ◌+◌, ℕ, List, length, slice_index_or}
use Rattle.effect_scan.specs.declared.node.Node.{Node}
use Rattle.effect_scan.specs.Rows.{Edge}
use Rattle.rank_check.specs.Valid.{most_bound}
use Rattle.token_reading.specs.Literals.{greatest}
use Rattle.settling_make.specs.declared.margin.Margin.{Margin}
use Rattle.settling_make.specs.Components.{number_of}
use Rattle.settling_make.specs.Inside.{IsSilentEnd}

-- what a component that is no set asks: nothing, and all its ranks are one
abbrev pub no_margin : Margin
no_margin = record { least = 0; round = 1; cost = 0 }

-- what the component of this number asks
abbrev pub margin_of : List Margin → ℕ → Margin
margin_of margins k = slice_index_or margins k no_margin

-- the number at this place
abbrev pub at_place : List ℕ → ℕ → ℕ
at_place numbers a = slice_index_or numbers a 0

-- the ranks of so many nodes, by their numbers
pub record AreRanksAt (rank : ℕ → ℕ) (count : ℕ) (ranks : List ℕ) : Type 0 where
  pub counted : length ranks ≡ count
  pub each : (a : ℕ) → a < count → at_place ranks a ≡ rank a

-- ---- ranks
-- along an edge from node a to node b the rank has to fall: it leaves a component, or leads to no property
abbrev pub Falls : List Node → List ℕ → ℕ → ℕ → Type 0
Falls nodes numbers a b = (number_of numbers a ≢ number_of numbers b) ⊎ IsSilentEnd nodes numbers a b

-- Ranks that fit: they fall so, are as great as their component asks, and lie as close together.
pub record FitRanks (nodes : List Node) (rows : List (List ℕ)) (numbers : List ℕ) (margins : List Margin) (rank : ℕ → ℕ) : Type 0 where
  pub falls : (a b : ℕ) → Edge rows a b → Falls nodes numbers a b → rank b < rank a
  pub above : (a : ℕ) → a < length rows → (margin_of margins (number_of numbers a)).least ≤ rank a
  pub close : (a b : ℕ) → a < length rows → b < length rows → number_of numbers a ≡ number_of numbers b
      → rank b < rank a + (margin_of margins (number_of numbers a)).round

-- ranks that fit, below the greatest bound, and no others that fit have a lower one
pub record AreLeastRanks (nodes : List Node) (rows : List (List ℕ)) (numbers : List ℕ) (margins : List Margin) (ranks : List ℕ) : Type 0 where
  pub count : length ranks ≡ length rows
  pub fit : FitRanks nodes rows numbers margins (at_place ranks)
  pub low : (a : ℕ) → at_place ranks a < most_bound
  pub least : (other : ℕ → ℕ) → FitRanks nodes rows numbers margins other → (a : ℕ) → a < length rows → at_place ranks a ≤ other a

-- among ranks that fit is one that isn't below the greatest bound
abbrev pub RanksAreHigh : List Node → List (List ℕ) → List ℕ → List Margin → Type 0
RanksAreHigh nodes rows numbers margins =
    (other : ℕ → ℕ) → FitRanks nodes rows numbers margins other → (a : ℕ) × (a < length rows) × (most_bound ≤ other a)

-- how many edges the longest chain inside the component has that leads to no property: along such edges it falls, and there is one
abbrev pub SilentEdge : List Node → List (List ℕ) → List ℕ → ℕ → ℕ → Type 0
SilentEdge nodes rows numbers a b = Edge rows a b × IsSilentEnd nodes numbers a b

-- ---- steps of components, of which these lead to one another
-- steps that fit: they are as great as their component costs, and by so much above those that it leads to
pub record FitSteps (outer : List (List ℕ)) (margins : List Margin) (step : ℕ → ℕ) : Type 0 where
  pub leaves : (k j : ℕ) → Edge outer k j → step j + (margin_of margins k).cost ≤ step k
  pub enough : (k : ℕ) → k < length margins → (margin_of margins k).cost ≤ step k

-- steps that fit, which a text can hold, and no others that fit have a lower one
pub record AreLeastSteps (outer : List (List ℕ)) (margins : List Margin) (steps : List ℕ) : Type 0 where
  pub count : length steps ≡ length margins
  pub fit : FitSteps outer margins (at_place steps)
  pub low : (k : ℕ) → at_place steps k ≤ greatest
  pub least : (other : ℕ → ℕ) → FitSteps outer margins other → (k : ℕ) → k < length margins → at_place steps k ≤ other k

-- among steps that fit is one that no text can hold
abbrev pub StepsAreHigh : List (List ℕ) → List Margin → Type 0
StepsAreHigh outer margins = (other : ℕ → ℕ) → FitSteps outer margins other → (k : ℕ) × (k < length margins) × (greatest < other k)
