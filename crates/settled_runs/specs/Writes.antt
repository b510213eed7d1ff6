-- What follows from a write or a bind where a settling certificate is valid (docs/settling-proof.md, "A write").
use Rattle.std.specs.Prelude.{◌≡◌, ◌≢◌, ◌⊎◌, ℕ, ◌+◌, ◌*◌, ◌≤◌, List, [], ◌∷◌, Option, None, Some}
use Rattle.std.specs.List.{Contains}
use Rattle.basic_types.specs.declared.value.Value.{Value}
use Rattle.meta_model.specs.Loaded.{Loaded}
use Rattle.meta_model.specs.Sound.{IsSound}
use Rattle.effect_scan.specs.declared.node.Node.{Node}
use Rattle.effect_scan.specs.declared.node.Member.TheVariants.{Property}
use Rattle.effect_scan.specs.Edges.{BySite}
use Rattle.effect_scan.specs.Nodes.{node}
use Rattle.binding_graph.specs.declared.binding.Binding.{Binding}
use Rattle.binding_graph.specs.declared.place.Place.{Place}
use Rattle.binding_graph.specs.Bindings.{Reads, Settled}
use Rattle.binding_graph.specs.Places.{In}
use Rattle.settling.specs.declared.certificate.SettlingLine.{SettlingLine}
use Rattle.settling.specs.declared.certificate.SettlingSet.{SettlingSet}
use Rattle.settling.specs.declared.certificate.SettlingCertificate.{SettlingCertificate}
use Rattle.settling.specs.Sets.{IsMember}
use Rattle.settling.specs.Valid.{IsLineOf, Destroys, IsRound, IsValid}

-- `classes` are the classes of all objects that were ever made

-- the place is at this node: a property of the class of its object
pub record IsAtNode (classes : ℕ → Option ℕ) (place : Place) (x : Node) : Type 0 where
  pub class : ℕ
  pub is : classes place.object ≡ Some class
  pub at : x ≡ node class (Property place.property)

-- .. which has this line
pub record IsLineAt (p : Loaded) (certificate : SettlingCertificate) (classes : ℕ → Option ℕ) (place : Place) (line : SettlingLine) : Type 0 where
  pub node : Node
  pub at : IsAtNode classes place node
  pub is : IsLineOf p certificate node line

-- a binding site leads from the first place to the second
pub record IsDrawn (p : Loaded) (classes : ℕ → Option ℕ) (read bound : Place) : Type 0 where
  pub from : Node
  pub is_from : IsAtNode classes read from
  pub to : Node
  pub is_to : IsAtNode classes bound to
  pub site : BySite p from to

-- These places are written or bound, and bindings and values then are others. A site covers each binding; all values had been
-- settled, and are again; nothing else was done to another place.
pub record AreWritten (p : Loaded) (classes : ℕ → Option ℕ) (before after : Place → Option Binding) (old new : Place → Option Value)
    (written : List Place) : Type 0 where
  pub drawn : (q m : Place) (b : Binding) → after q ≡ Some b → Reads b m → IsDrawn p classes m q
  pub settled_old : Settled before old
  pub settled_new : Settled after new
  pub same : (q : Place) (b : Binding) → ¬ In q written → after q ≡ Some b → before q ≡ Some b
  pub kept : (q : Place) → ¬ In q written → after q ≡ None → new q ≡ old q

-- the upper line is no higher than the lower one: by its rank, its step and its destroy set
pub record IsNoHigher (p : Loaded) (lower upper : SettlingLine) : Type 0 where
  pub rank : upper.rank ≤ lower.rank
  pub step : upper.step ≤ lower.step
  pub set : (d : ℕ) → ¬ Destroys p lower d → ¬ Destroys p upper d

-- what changes is no higher than a line that no written place is above
abbrev pub FollowersAreLow : Type 0
FollowersAreLow =
    (p : Loaded) (certificate : SettlingCertificate) (classes : ℕ → Option ℕ) (before after : Place → Option Binding)
    (old new : Place → Option Value) (written : List Place) (line : SettlingLine) →
    IsSound p → IsValid p certificate → AreWritten p classes before after old new written →
    ((w : Place) (other : SettlingLine) → In w written → IsLineAt p certificate classes w other → IsNoHigher p line other) →
    (q : Place) (upper : SettlingLine) → IsLineAt p certificate classes q upper → new q ≢ old q → IsNoHigher p line upper

-- Where one place of a set is written, what else changes has a lower step, by what the set adds for an object.
abbrev pub FollowersLeave : Type 0
FollowersLeave =
    (p : Loaded) (certificate : SettlingCertificate) (classes : ℕ → Option ℕ) (before after : Place → Option Binding)
    (old new : Place → Option Value) (written q : Place) (set : SettlingSet) (round : IsRound p certificate set) (x : Node)
    (line upper : SettlingLine) →
    IsSound p → IsValid p certificate → AreWritten p classes before after old new (written ∷ []) → IsAtNode classes written x →
    IsMember p set x → Contains certificate.sets set → IsLineOf p certificate x line → IsLineAt p certificate classes q upper →
    q ≢ written → new q ≢ old q → upper.step + set.round * round.most ≤ line.step

-- nothing follows where each written place has the value that it had, or no binding reads it
abbrev pub NothingFollows : Type 0
NothingFollows =
    (p : Loaded) (certificate : SettlingCertificate) (classes : ℕ → Option ℕ) (before after : Place → Option Binding)
    (old new : Place → Option Value) (written : List Place) →
    IsSound p → IsValid p certificate → AreWritten p classes before after old new written →
    ((w : Place) → In w written → (new w ≡ old w) ⊎ ((q : Place) (b : Binding) → after q ≡ Some b → ¬ Reads b w)) →
    (q : Place) → ¬ In q written → new q ≡ old q
