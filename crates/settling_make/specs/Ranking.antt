-- What the maker of ranks needs and knows, by numbers.
use Rattle.std.specs.Prelude.{◌≡◌, ◌⊎◌, ◌<◌, ◌≤◌, ◌+◌, ℕ, List, length}
use Rattle.std.specs.List.{Contains}
use Rattle.std.specs.List.Sorted.{IsNonDecreasingBy}
use Rattle.effect_scan.specs.declared.node.Node.{Node}
use Rattle.effect_scan.specs.Rows.{Edge}
use Rattle.rank_check.specs.Valid.{most_bound}
use Rattle.rank_graph.specs.Walks.{LeadsBy}
use Rattle.settling_make.specs.declared.components.Components.{Components}
use Rattle.settling_make.specs.declared.margin.Margin.{Margin}
use Rattle.settling_make.specs.Components.{number_of, AreComponents}
use Rattle.settling_make.specs.Fits.{margin_of, at_place, Falls, FitRanks, SilentEdge}

-- the greatest of the values at these places, or 0
pub record IsHighest (values places : List ℕ) (highest : ℕ) : Type 0 where
  pub above : (b : ℕ) → Contains places b → at_place values b ≤ highest
  pub met : (highest ≡ 0) ⊎ ((b : ℕ) × Contains places b × (at_place values b ≡ highest))

-- heights fall along edges inside components that lead to no property, and each is that of a chain of them
pub record AreHeightsInside (nodes : List Node) (rows : List (List ℕ)) (numbers : List ℕ) (height : ℕ → ℕ) : Type 0 where
  pub falls : (a b : ℕ) → SilentEdge nodes rows numbers a b → height b < height a
  pub chain : (a : ℕ) → a < length rows → (along : List ℕ) × (to : ℕ) × LeadsBy (SilentEdge nodes rows numbers) a along to × (length along ≡ height a)

-- for each component what it asks, with a round above the heights of its nodes
pub record AreMargins (rows : List (List ℕ)) (numbers : List ℕ) (sets : List (List ℕ)) (height : ℕ → ℕ) (margins : List Margin) : Type 0 where
  pub count : length margins ≡ length sets
  pub rounds : (a : ℕ) → a < length rows → height a < (margin_of margins (number_of numbers a)).round
  pub some : (k : ℕ) → 0 < (margin_of margins k).round
  pub low : (k : ℕ) → (margin_of margins k).round ≤ most_bound
  pub least : (k : ℕ) → (margin_of margins k).least ≤ 1

-- what is known before ranks are made
pub record AreGiven (nodes : List Node) (rows : List (List ℕ)) (found : Components) (height : ℕ → ℕ) (margins : List Margin) : Type 0 where
  pub inside : (a b : ℕ) → Edge rows a b → b < length rows
  pub nodes_count : length nodes ≡ length rows
  pub found_are : AreComponents rows found
  pub heights : AreHeightsInside nodes rows found.numbers height
  pub margins_are : AreMargins rows found.numbers found.sets height margins

-- these nodes, those of a lesser height before the others
pub record AreByHeight (all : List ℕ) (height : ℕ → ℕ) (members : List ℕ) : Type 0 where
  pub among : (a : ℕ) → Contains members a → Contains all a
  pub each : (a : ℕ) → Contains all a → Contains members a
  pub order : IsNonDecreasingBy height members

-- the ranks of the components below this one fit, and no others that fit have a lower one
pub record RankedTo (nodes : List Node) (rows : List (List ℕ)) (numbers : List ℕ) (margins : List Margin) (k : ℕ) (ranks : List ℕ) : Type 0 where
  pub count : length ranks ≡ length rows
  pub low : (a : ℕ) → at_place ranks a < most_bound
  pub falls : (a b : ℕ) → number_of numbers a < k → Edge rows a b → Falls nodes numbers a b → at_place ranks b < at_place ranks a
  pub above : (a : ℕ) → number_of numbers a < k → a < length rows → (margin_of margins (number_of numbers a)).least ≤ at_place ranks a
  pub close : (a b : ℕ) → number_of numbers a < k → a < length rows → b < length rows → number_of numbers a ≡ number_of numbers b
      → at_place ranks b < at_place ranks a + (margin_of margins (number_of numbers a)).round
  pub least : (other : ℕ → ℕ) → FitRanks nodes rows numbers margins other → (a : ℕ) → number_of numbers a < k → a < length rows → at_place ranks a ≤ other a

-- the least rank that is at least so great, and above those of the nodes that it has to fall to
pub record IsNeed (nodes : List Node) (rows : List (List ℕ)) (numbers ranks : List ℕ) (a least need : ℕ) : Type 0 where
  pub above : least ≤ need
  pub over : (b : ℕ) → Edge rows a b → Falls nodes numbers a b → at_place ranks b < need
  pub met : (need ≡ least) ⊎ ((b : ℕ) × Edge rows a b × Falls nodes numbers a b × (at_place ranks b + 1 ≡ need))

-- each of these nodes has a rank above those of the nodes that it has to fall to; none that fits is lower
pub record AreNeeds (nodes : List Node) (rows : List (List ℕ)) (numbers : List ℕ) (margins : List Margin) (k : ℕ) (members before ranks : List ℕ) : Type 0 where
  pub count : length ranks ≡ length before
  pub others : (a : ℕ) → (at_place ranks a ≡ at_place before a) ⊎ (number_of numbers a ≡ k)
  pub low : (a : ℕ) → at_place ranks a < most_bound
  pub above : (a : ℕ) → Contains members a → (margin_of margins k).least ≤ at_place ranks a
  pub over : (a b : ℕ) → Contains members a → Edge rows a b → Falls nodes numbers a b → at_place ranks b < at_place ranks a
  pub least : (other : ℕ → ℕ) → FitRanks nodes rows numbers margins other → (a : ℕ) → Contains members a → at_place ranks a ≤ other a

-- the least rank of a component: no rank lies more than its round above it
pub record IsFloor (values members : List ℕ) (margin : Margin) (floor : ℕ) : Type 0 where
  pub above : margin.least ≤ floor
  pub close : (a : ℕ) → Contains members a → at_place values a < floor + margin.round
  pub met : (floor ≡ margin.least) ⊎ ((a : ℕ) × Contains members a × (floor + margin.round ≡ at_place values a + 1))

-- each of these nodes has the rank that it had, or what its height is above the floor, where that is greater
pub record AreRaised (members : List ℕ) (floor : ℕ) (height : ℕ → ℕ) (before ranks : List ℕ) : Type 0 where
  pub count : length ranks ≡ length before
  pub low : (a : ℕ) → at_place ranks a < most_bound
  pub grows : (a : ℕ) → at_place before a ≤ at_place ranks a
  pub either : (a : ℕ) → (at_place ranks a ≡ at_place before a) ⊎ (Contains members a × (at_place ranks a ≡ floor + height a))
  pub raised : (a : ℕ) → Contains members a → floor + height a ≤ at_place ranks a
