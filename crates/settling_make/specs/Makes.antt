-- What the maker answers (docs/settling.md, "The maker").
use Rattle.std.specs.Prelude.{◌≡◌, ◌⊎◌, ◌<◌, ◌≤◌, ◌+◌, ℕ, Bool, List, length, Some, Result, Ok, Err}
use Rattle.meta_model.specs.Loaded.{Loaded}
use Rattle.effect_scan.specs.{declared.node.Node.{Node}, Nodes.{nodes_of}, Scans.{Scanned, IsScan}}
use Rattle.type_check.specs.{Firsts.{IsFirstWithout}, Wires.{IsFitWire, AreFitWires}, Typed.{FindsUntyped}}
use Rattle.rank_check.specs.{Entries.{IsReady}, Valid.{most_bound}}
use Rattle.rank_graph.specs.{Solutions.{rank_of, leads_of}, Walks.{LeadsBy}, declared.solution.Solution.{Solution}}
use Rattle.rank_make.specs.Solved.{AreLow}
use Rattle.settling.specs.{declared.certificate.SettlingCertificate.{SettlingCertificate}, Valid.{IsValid}}
use Rattle.settling_make.specs.{declared.components.Components.{Components}, declared.margin.Margin.{Margin}, declared.sets.Sets.{Sets}, declared.why.Why.{Why}, declared.why.Why.TheVariants.{Wire, BodyType, Circling, Ending, TooLong, TooHigh, TooSteep, Memory}, Circles.{NoneIsValid, DoesNotSettle, EdgesSettle, IsSilentEdge, AreHeights, LeadsToEnd, NoneEnds, AreDestroyed}, Collected.{LeadsOut, AreCollected}, Components.{AreComponents}, Fits.{at_place, AreLeastRanks, RanksAreHigh, AreLeastSteps, StepsAreHigh}, Lines.{AreLinesFor}, Margins.{AreMarginsOf}, Sets.{AreSetsOf}}

-- ---- what a certificate is made of
-- the components of the program's edges, their sets, and what these ask
pub record AreParts (p : Loaded) (scan : Scanned) (found : Components) (height : ℕ → ℕ) (made : Sets) (margins : List Margin) : Type 0 where
  pub scan_is : IsScan p scan
  pub found_are : AreComponents scan.rows found
  pub heights : AreHeights p height
  pub low : AreLow (length (nodes_of p)) height
  pub sets : AreSetsOf p scan.rows found height made
  pub margins_are : AreMarginsOf p found made margins

-- it is just above these numbers
pub record IsJustAbove (numbers : List ℕ) (bound : ℕ) : Type 0 where
  pub above : (a : ℕ) → a < length numbers → at_place numbers a < bound
  pub least : (bound ≡ 0) ⊎ ((a : ℕ) × (a < length numbers) × (at_place numbers a + 1 ≡ bound))

-- it is the greatest of these numbers, or 0
pub record IsGreatest (numbers : List ℕ) (most : ℕ) : Type 0 where
  pub above : (a : ℕ) → a < length numbers → at_place numbers a ≤ most
  pub met : (most ≡ 0) ⊎ ((a : ℕ) × (a < length numbers) × (at_place numbers a ≡ most))

-- the certificate of these parts: the least steps, and the least ranks with them; the bound is just above the ranks, and the step the greatest
pub record IsMadeOf (p : Loaded) (scan : Scanned) (found : Components) (height : ℕ → ℕ) (made : Sets) (margins : List Margin) (leads : ℕ → ℕ → Bool) (certificate : SettlingCertificate) : Type 0 where
  pub parts : AreParts p scan found height made margins
  pub destroyed : AreDestroyed p found.numbers leads
  pub ranks : List ℕ
  pub ranks_are : AreLeastRanks scan.nodes scan.rows found.numbers margins ranks
  pub outer : List (List ℕ)
  pub outer_are : AreCollected (LeadsOut scan.rows found.numbers) found.sets outer
  pub steps : List ℕ
  pub steps_are : AreLeastSteps outer margins steps
  pub sets : certificate.sets ≡ made.sets
  pub lines : AreLinesFor p found.numbers ranks steps leads certificate.lines
  pub bound : IsJustAbove ranks certificate.bound
  pub step : IsGreatest steps certificate.step

pub record IsMade (p : Loaded) (certificate : SettlingCertificate) : Type 0 where
  pub scan : Scanned
  pub found : Components
  pub height : ℕ → ℕ
  pub sets : Sets
  pub margins : List Margin
  pub leads : ℕ → ℕ → Bool
  pub of : IsMadeOf p scan found height sets margins leads certificate

-- it is made, no circle stands against it, and nothing may destroy its own object
pub record IsMadeAlone (p : Loaded) (certificate : SettlingCertificate) : Type 0 where
  pub made : IsMade p certificate
  pub settle : EdgesSettle p
  pub spared : NoneEnds p

-- ---- reasons
-- from the node a chain leads along circles that has as many edges as the greatest bound, none of them into a property
abbrev pub IsLong : Loaded → Node → Type 0
IsLong p x = (along : List Node) × (to : Node) × LeadsBy (IsSilentEdge p) x along to × (most_bound ≤ length along)

-- all ranks that fit these parts have one that isn't below the greatest bound
pub record RanksAreTooHigh (p : Loaded) : Type 0 where
  pub scan : Scanned
  pub found : Components
  pub height : ℕ → ℕ
  pub made : Sets
  pub margins : List Margin
  pub parts : AreParts p scan found height made margins
  pub high : RanksAreHigh scan.nodes scan.rows found.numbers margins

-- all steps that fit them have one that no text can hold
pub record StepsAreTooHigh (p : Loaded) : Type 0 where
  pub scan : Scanned
  pub found : Components
  pub height : ℕ → ℕ
  pub made : Sets
  pub margins : List Margin
  pub parts : AreParts p scan found height made margins
  pub outer : List (List ℕ)
  pub outer_are : AreCollected (LeadsOut scan.rows found.numbers) found.sets outer
  pub high : StepsAreHigh outer margins

-- What is named is so, and no certificate is valid; but where ranks or steps are too high, only none with these parts is made.
-- Running out of memory says nothing.
abbrev pub IsReason : Loaded → Why → Type 0
IsReason p (Wire place) = IsFirstWithout (IsFitWire p) p.wires place × NoneIsValid p
IsReason p (BodyType spot) = AreFitWires p × FindsUntyped p (Some spot) × NoneIsValid p
IsReason p (Circling circle) = IsReady p × DoesNotSettle p circle × NoneIsValid p
IsReason p (Ending x) = IsReady p × LeadsToEnd p x × NoneIsValid p
IsReason p (TooLong x) = IsReady p × IsLong p x × NoneIsValid p
IsReason p TooHigh = IsReady p × RanksAreTooHigh p
IsReason p TooSteep = IsReady p × StepsAreTooHigh p
IsReason p Memory = Unit {0}

-- ---- answers
abbrev pub ReadyOrReason : Loaded → Result (Unit {0}) Why → Type 0
ReadyOrReason p (Ok _) = IsReady p
ReadyOrReason p (Err why) = IsReason p why

-- the circles settle, their chains without an edge into a property have these heights, which are low
pub record AreSettled (p : Loaded) (heights : Solution) : Type 0 where
  pub edges : EdgesSettle p
  pub are : AreHeights p (rank_of heights)
  pub low : AreLow (length (nodes_of p)) (rank_of heights)

abbrev pub SettledOrReason : Loaded → Result Solution Why → Type 0
SettledOrReason p (Ok heights) = AreSettled p heights
SettledOrReason p (Err why) = IsReady p → IsReason p why

-- what may be destroyed from the components, and nothing that may destroy its own object
abbrev pub SparedOrReason : Loaded → List ℕ → Result Solution Why → Type 0
SparedOrReason p numbers (Ok destroyed) = AreDestroyed p numbers (leads_of destroyed) × NoneEnds p
SparedOrReason p numbers (Err why) = IsReady p → IsReason p why

-- a certificate of the least parts, or a reason
abbrev pub MadeOrReason : Loaded → Result SettlingCertificate Why → Type 0
MadeOrReason p (Ok certificate) = IsMade p certificate
MadeOrReason p (Err why) = IsReady p → IsReason p why

-- a valid certificate, or a reason why none was made
abbrev pub Makes : Loaded → Result SettlingCertificate Why → Type 0
Makes p (Ok certificate) = IsValid p certificate × IsMade p certificate
Makes p (Err why) = IsReason p why
