-- What the code finds of a part of a body, which may be in a group.
use Rattle.std.specs.Prelude.{◌≡◌, ℕ, Bool, true, false, List, Some}
use Rattle.meta_model.specs.declared.object.Statement.{Statement}
use Rattle.meta_model.specs.declared.object.Statement.TheViews.{out-Statement}
use Rattle.meta_model.specs.declared.object.ValueType.{ValueType}
use Rattle.meta_model.specs.Loaded.{Loaded}
use Rattle.effect_scan.specs.declared.effect.Effect.{Effect}
use Rattle.effect_scan.specs.declared.node.Node.{Node}
use Rattle.effect_scan.specs.Effects.{effect_of, Occurs}
use Rattle.effect_scan.specs.Edges.{Reaches, ByWork}
use Rattle.settling.specs.Hands.{HandsValue, StandsAlone, WorkHands}

-- the statement of a body of class c does something to the node by itself
pub record DoesTo (p : Loaded) (c : ℕ) (types : List ValueType) (t : Statement) (y : Node) : Type 0 where
  pub effect : Effect
  pub is : effect_of types (out-Statement t) ≡ Some effect
  pub to : Reaches p c effect y

-- a statement of the part may do something to the node: in a group none may
abbrev pub MayDo : Bool → {t : Statement} {body : List Statement} → Occurs t body → Type 0
MayDo true {t} occurs = ⊥
MayDo false {t} occurs = HandsValue (out-Statement t) × StandsAlone occurs

-- each statement of the part, or in one of it, that does something to the node hands its value on
abbrev pub BodyHands : Loaded → ℕ → List ValueType → Bool → List Statement → Node → Type 0
BodyHands p c types grouped body y = (t : Statement) (occurs : Occurs t body) → DoesTo p c types t y → MayDo grouped occurs

-- each way from the one node to the other by what its method does hands its value on
abbrev pub WorksHand : Loaded → Node → Node → Type 0
WorksHand p x y = (w : ByWork p x y) → WorkHands w.method.types w.method.work w.effect w.has
