-- What a check keeps of a certificate, by the numbers of lines, nodes and classes.
use Rattle.std.specs.{Prelude.{◌≡◌, ◌≢◌, ◌↔◌, ◌<◌, ℕ, Bool, true, false, List, length, Option, Some, None, Result, Ok, Err, MatchResult, slice_get, slice_index_or}, List.{AllZip}}
use Rattle.meta_model.specs.Loaded.{Loaded}
use Rattle.name_indexes.specs.LookUps.{LooksUp, FindsOnly}
use Rattle.effect_scan.specs.{declared.node.Node.{Node}, Nodes.{nodes_of, IsAt}}
use Rattle.class_sets.specs.Marks.{IsMarked, Marks}
use Rattle.type_check.specs.{Wires.{AreFitWires}, Typed.{IsTypedProgram}}
use Rattle.certificate_lang.specs.{declared.certificate.NodeName.{NodeName}, declared.certificate.SetItem.{SetItem}, declared.certificate.Line.{Line}, declared.certificate.Certificate.{Certificate}}
use Rattle.rank_check.specs.{declared.causes.Cause.{Cause}, declared.causes.NodeLine.{NodeLine}, declared.causes.Extra.{Extra}, declared.causes.Extra.TheVariants.{Unknown, Twice, Class}, declared.entries.NodeClaim.{NodeClaim}, declared.no.No.{No}, declared.no.No.TheVariants.{Wire, BodyType, Memory}, Names.{IsNodeNamed}, Valid.{StandsFor, AreClassesThere, IsListed, HasEachNode, HasNothingElse}, Causes.{StandsForNoClass, StandsForNone, IsExtra, IsAtPlace}, Checks.{IsCause}, ByNumbers.{IsPlaceOf}}

-- ---- the nodes of lines
-- the node of this number is named so
pub record IsNumberNamed (p : Loaded) (name : NodeName) (n : ℕ) : Type 0 where
  pub node : Node
  pub named : IsNodeNamed p name node
  pub at : IsAt (nodes_of p) node n

-- the number of the node that the line is for, if it is for one
pub record HasNumber (p : Loaded) (line : Line) (number : Option ℕ) : Type 0 where
  pub found : LooksUp (IsNumberNamed p line.node) number
  pub only : FindsOnly (IsNumberNamed p line.node) number

-- for each line the number of the node that it is for, if it is for one
abbrev pub AreNumbers : Loaded → List Line → List (Option ℕ) → Type 0
AreNumbers p lines numbers = AllZip (HasNumber p) lines numbers

-- a line of this place is for node n
abbrev pub IsFor : List (Option ℕ) → ℕ → ℕ → Type 0
IsFor numbers k n = slice_get numbers k ≡ Some (Some n)

-- all these nodes are among the first ones
abbrev pub AreBelow : ℕ → List (Option ℕ) → Type 0
AreBelow count numbers = (k n : ℕ) → IsFor numbers k n → n < count

-- ---- the lines of nodes
abbrev pub place_at : List (Option ℕ) → ℕ → Option ℕ
place_at places n = slice_index_or places n None

-- for each node the place of a line that is for it, where one of the first lines is
pub record PlacesFirst (count end : ℕ) (numbers places : List (Option ℕ)) : Type 0 where
  pub counted : length places ≡ count
  pub is_for : (n k : ℕ) → place_at places n ≡ Some k → IsFor numbers k n
  pub each : (n k : ℕ) → k < end → IsFor numbers k n → ¬ (place_at places n ≡ None)

-- for each node the place of a line that is for it, where there is one
abbrev pub PlacesEach : ℕ → List (Option ℕ) → List (Option ℕ) → Type 0
PlacesEach count numbers places = PlacesFirst count (length numbers) numbers places

-- the node has no place
pub record LacksPlace (places : List (Option ℕ)) (node : ℕ) : Type 0 where
  pub inside : node < length places
  pub none : place_at places node ≡ None

-- all the places, or a node that has none
abbrev pub FindsAll : List (Option ℕ) → Result (List ℕ) ℕ → Type 0
FindsAll places found = MatchResult found (λ all. AllZip (λ place k. place ≡ Some k) places all) (LacksPlace places)

-- each node has a line: these are their places
pub record ArePlaces (count : ℕ) (numbers : List (Option ℕ)) (places : List ℕ) : Type 0 where
  pub counted : length places ≡ count
  pub is_for : (n k : ℕ) → slice_get places n ≡ Some k → IsFor numbers k n

-- no line is for this node
pub record LacksLine (count : ℕ) (numbers : List (Option ℕ)) (node : ℕ) : Type 0 where
  pub inside : node < count
  pub none : (k : ℕ) → ¬ IsFor numbers k node

-- the places of the nodes' lines, or a node that has none
abbrev pub FindsPlaces : ℕ → List (Option ℕ) → Result (List ℕ) ℕ → Type 0
FindsPlaces count numbers found = MatchResult found (ArePlaces count numbers) (LacksLine count numbers)

-- the line of this place is that of its node
pub record IsPlaced (numbers : List (Option ℕ)) (places : List ℕ) (k : ℕ) : Type 0 where
  pub node : ℕ
  pub is_for : IsFor numbers k node
  pub placed : slice_get places node ≡ Some k

-- the line of each place is that of its node
abbrev pub AreOnce : List (Option ℕ) → List ℕ → Type 0
AreOnce numbers places = (k : ℕ) → k < length numbers → IsPlaced numbers places k

-- the line of place j is for a node whose line is another
pub record IsSecond (numbers : List (Option ℕ)) (places : List ℕ) (j k : ℕ) : Type 0 where
  pub node : ℕ
  pub is_for : IsFor numbers j node
  pub placed : slice_get places node ≡ Some k
  pub other : k ≢ j

abbrev pub IsExtraLine : List (Option ℕ) → List ℕ → Extra → Type 0
IsExtraLine numbers places (Unknown k) = slice_get numbers k ≡ Some None
IsExtraLine numbers places (Twice j k) = IsSecond numbers places j k
IsExtraLine numbers places (Class k item) = ⊥

-- ---- ranks and sets
-- the classes that are marked are those that the items stand for, which are all there
pub record IsSet (p : Loaded) (items : List SetItem) (set : List Bool) : Type 0 where
  pub there : AreClassesThere p items
  pub marks : (d : ℕ) → IsMarked set d ↔ IsListed p items d

-- the item stands for some classes, and just these are added to the set; or it stands for none
abbrev pub AddsItem : Loaded → SetItem → List Bool → Bool → List Bool → Type 0
AddsItem p item before true after = ((d : ℕ) × StandsFor p item d) × Marks (StandsFor p item) before after
AddsItem p item before false after = StandsForNoClass p item

-- the set, or the place of a class that isn't there
abbrev pub FindsSet : Loaded → List SetItem → Result (List Bool) ℕ → Type 0
FindsSet p items found = MatchResult found (IsSet p items) (StandsForNone p items)

-- the rank and the set of the line
pub record IsEntry (p : Loaded) (line : Line) (entry : NodeClaim) : Type 0 where
  pub rank : entry.rank ≡ line.rank
  pub destroys : IsSet p line.destroys entry.destroys

-- the rank and the set of the line at this place, or the place of an item of its set whose class isn't there
abbrev pub FindsEntry : Loaded → Line → ℕ → Result NodeClaim ℕ → Type 0
FindsEntry p line k found = MatchResult found (λ entry. (entry.line ≡ k) × IsEntry p line entry) (StandsForNone p line.destroys)

-- the rank and the set of the line at this place
pub record IsEntryAt (p : Loaded) (lines : List Line) (k : ℕ) (entry : NodeClaim) : Type 0 where
  pub line : Line
  pub stands : slice_get lines k ≡ Some line
  pub place : entry.line ≡ k
  pub is : IsEntry p line entry

-- the entries of the lines at these places, or a class that isn't there
abbrev pub FindsEntries : Loaded → List Line → List ℕ → Result (List NodeClaim) Extra → Type 0
FindsEntries p lines places found = MatchResult found (AllZip (IsEntryAt p lines) places) (IsExtra p lines)

-- the entry of the node at this place
pub record IsEntryOf (p : Loaded) (certificate : Certificate) (place : NodeLine) (entry : NodeClaim) : Type 0 where
  pub node : Node
  pub line : Line
  pub at : IsAtPlace p certificate place node line
  pub is : IsEntry p line entry

-- an entry for each node, in their order
pub record AreEntries (p : Loaded) (certificate : Certificate) (entries : List NodeClaim) : Type 0 where
  pub count : length entries ≡ length (nodes_of p)
  pub each : (place : NodeLine) (entry : NodeClaim) → IsPlaceOf entries place entry → IsEntryOf p certificate place entry

-- the lines name each node once, and nothing else
pub record NamesNodes (p : Loaded) (certificate : Certificate) (entries : List NodeClaim) : Type 0 where
  pub each_node : HasEachNode p certificate
  pub nothing_else : HasNothingElse p certificate
  pub are : AreEntries p certificate entries

-- in a program whose wires fit and whose parts are typed
pub record IsReady (p : Loaded) : Type 0 where
  pub wires : AreFitWires p
  pub typed : IsTypedProgram p

-- the program's own conditions are judged, whatever the certificate
abbrev pub JudgesProgram : Loaded → Result (Unit {0}) Cause → Type 0
JudgesProgram p (Ok _) = IsReady p
JudgesProgram p (Err cause) = (certificate : Certificate) → IsCause p certificate cause

-- the condition of the no is one on the program alone, and doesn't hold
abbrev pub BreaksProgram : Loaded → No → Type 0
BreaksProgram p Wire = ¬ AreFitWires p
BreaksProgram p BodyType = AreFitWires p × ¬ IsTypedProgram p
BreaksProgram p Memory = Unit {0}
BreaksProgram p reason = ⊥

-- the entries of the nodes, where the lines name each once and nothing else
abbrev pub GivesEntries : Loaded → Certificate → Result (List NodeClaim) Cause → Type 0
GivesEntries p certificate (Ok entries) = NamesNodes p certificate entries
GivesEntries p certificate (Err cause) = IsReady p → IsCause p certificate cause
