-- What the nodes of a set have in common.
use Rattle.std.specs.Prelude.{◌≡◌, ◌≢◌, ◌⊎◌, ◌<◌, ◌≤◌, ◌+◌, ◌*◌, min, max, ℕ, List, length, Some, slice_get}
use Rattle.std.specs.List.{Contains, AllZip}
use Rattle.meta_model.specs.Loaded.{Loaded}
use Rattle.meta_model.specs.Sound.{AreOnce}
use Rattle.effect_scan.specs.declared.node.Member.TheVariants.{Property}
use Rattle.effect_scan.specs.Nodes.{node}
use Rattle.effect_scan.specs.Rows.{row}
use Rattle.settling.specs.declared.certificate.SettlingSet.{SettlingSet}
use Rattle.settling.specs.declared.standings.Standing.{Standing}
use Rattle.settling.specs.declared.spans.Span.{Span}
use Rattle.settling.specs.Settles.{Carries, IsProperty}

-- ---- one more node

-- the greatest number of 32 bits
abbrev pub greatest : ℕ
greatest = 4294967295

-- of no node
pub record IsBegun (round : ℕ) (span : Span) : Type 0 where
  pub round_is : span.round ≡ round
  pub rank : span.rank ≡ greatest
  pub step : span.step ≡ greatest
  pub none : span.count ≡ 0
  pub first : span.class ≡ 0
  pub one : span.most ≡ 1

-- of one property more, of this class, after these of the last class and the most of one
pub record IsCounted (class count most to : ℕ) (next : Span) : Type 0 where
  pub class_is : next.class ≡ to
  pub more : to ≡ class → next.count ≡ count + 1
  pub begins : to ≢ class → next.count ≡ 1
  pub greatest_is : next.most ≡ max most next.count

pub record IsNext (span : Span) (s : Standing) (next : Span) : Type 0 where
  pub round : next.round ≡ span.round
  pub rank : next.rank ≡ min span.rank s.rank
  pub rank_small : s.rank ≤ greatest
  pub step : next.step ≡ min span.step s.step
  pub step_small : s.step ≤ greatest
  pub property : IsProperty s.node → IsCounted span.class span.count span.most s.node.class next
  pub other : (¬ IsProperty s.node) → (next.class ≡ span.class) × (next.count ≡ span.count) × (next.most ≡ span.most)

-- the node is added to what those of its set have in common
pub record AddsNode (s : Standing) (before after : List Span) : Type 0 where
  pub count : length after ≡ length before
  pub each : (k : ℕ) (next : Span) → slice_get after k ≡ Some next
      → (span : Span) × (slice_get before k ≡ Some span) × (s.set ≡ Some k → IsNext span s next) × ((¬ (s.set ≡ Some k)) → next ≡ span)

abbrev pub AreBegun : List SettlingSet → List Span → Type 0
AreBegun sets spans = AllZip (λ set span. IsBegun set.round span) sets spans

-- ---- the first nodes

-- one of the first nodes, of this set
pub record OfSet (standings : List Standing) (end k n : ℕ) (s : Standing) : Type 0 where
  pub low : n < end
  pub is : slice_get standings n ≡ Some s
  pub set : s.set ≡ Some k

-- one of them is this property
pub record HasProperty (standings : List Standing) (end k c q : ℕ) : Type 0 where
  pub number : ℕ
  pub standing : Standing
  pub of : OfSet standings end k number standing
  pub is : standing.node ≡ node c (Property q)

-- properties of one class among them, each once
pub record AreAmong (standings : List Standing) (end k c : ℕ) (properties : List ℕ) : Type 0 where
  pub each : (q : ℕ) → Contains properties q → HasProperty standings end k c q
  pub once : AreOnce properties

-- one of them has this
pub record IsMet (standings : List Standing) (end k : ℕ) (P : Standing → Type 0) : Type 0 where
  pub number : ℕ
  pub standing : Standing
  pub of : OfSet standings end k number standing
  pub has : P standing

-- the least rank and step of those of this set, and the most properties that a class has, or 1
pub record IsSpan (standings : List Standing) (end k : ℕ) (span : Span) : Type 0 where
  pub rank : (n : ℕ) (s : Standing) → OfSet standings end k n s → span.rank ≤ s.rank
  pub rank_met : (n : ℕ) (s : Standing) → OfSet standings end k n s → IsMet standings end k (λ t. t.rank ≡ span.rank)
  pub step : (n : ℕ) (s : Standing) → OfSet standings end k n s → span.step ≤ s.step
  pub step_met : (n : ℕ) (s : Standing) → OfSet standings end k n s → IsMet standings end k (λ t. t.step ≡ span.step)
  pub some : 0 < span.most
  pub few : (c : ℕ) (properties : List ℕ) → AreAmong standings end k c properties → length properties ≤ span.most
  pub many : (span.most ≡ 1) ⊎ ((c : ℕ) × (properties : List ℕ) × AreAmong standings end k c properties × (length properties ≡ span.most))

-- in the order of classes, and no property twice
pub record AreInOrder (standings : List Standing) : Type 0 where
  pub rises : (n m : ℕ) (s t : Standing) → slice_get standings n ≡ Some s → slice_get standings m ≡ Some t → n ≤ m → s.node.class ≤ t.node.class
  pub once : (n m c q : ℕ) (s t : Standing) → slice_get standings n ≡ Some s → slice_get standings m ≡ Some t
      → s.node ≡ node c (Property q) → t.node ≡ node c (Property q) → n ≡ m

-- for each set what its nodes have in common
pub record AreSpans (sets : List SettlingSet) (standings : List Standing) (spans : List Span) : Type 0 where
  pub count : length spans ≡ length sets
  pub rounds : (k : ℕ) (set : SettlingSet) (span : Span) → slice_get sets k ≡ Some set → slice_get spans k ≡ Some span → span.round ≡ set.round
  pub each : (k : ℕ) (span : Span) → slice_get spans k ≡ Some span → IsSpan standings (length standings) k span

-- ---- what has to hold of sets

-- by how much a set makes activations nest deeper for each object
abbrev pub cost : Span → ℕ
cost span = span.round * span.most

-- what has to hold of a node of a set that has this in common
pub record IsWithin (p : Loaded) (span : Span) (s : Standing) : Type 0 where
  pub carries : Carries p s.node
  pub above : 0 < s.rank
  pub close : s.rank < span.rank + span.round
  pub one_step : s.step ≡ span.step
  pub enough : cost span ≤ s.step

-- the step falls by so much to these nodes, but those of this set
abbrev pub StepsFall : List Standing → List ℕ → ℕ → ℕ → ℕ → Type 0
StepsFall standings targets k cost step =
    (b : ℕ) (t : Standing) → Contains targets b → slice_get standings b ≡ Some t → (t.set ≢ Some k) → t.step + cost ≤ step

pub record MemberHolds (p : Loaded) (standings : List Standing) (targets : List ℕ) (k : ℕ) (span : Span) (s : Standing) : Type 0 where
  pub within : IsWithin p span s
  pub leaves : StepsFall standings targets k (cost span) s.step

-- no round is 0
abbrev pub HaveRounds : List Span → Type 0
HaveRounds spans = (k : ℕ) (span : Span) → slice_get spans k ≡ Some span → 0 < span.round

-- what has to hold of a node, if it is of a set
abbrev pub NodeHolds : Loaded → List Standing → List ℕ → List Span → Standing → Type 0
NodeHolds p standings targets spans s = (k : ℕ) (span : Span) → s.set ≡ Some k → slice_get spans k ≡ Some span → MemberHolds p standings targets k span s

-- .. of all nodes
abbrev pub MembersHold : Loaded → List (List ℕ) → List Standing → List Span → Type 0
MembersHold p rows standings spans = (n : ℕ) (s : Standing) → slice_get standings n ≡ Some s → NodeHolds p standings (row rows n) spans s
