-- Sets of members that come to rest (docs/settling.md, "Sets that settle").
use Rattle.std.specs.Prelude.{◌≡◌, ◌≢◌, ℕ, length}
use Rattle.meta_model.specs.declared.effects.MetaEffects.{MetaEffects}
use Rattle.meta_model.specs.declared.object.MetaMethod.{MetaMethod}
use Rattle.meta_model.specs.declared.object.Work.TheVariants.{Native}
use Rattle.meta_model.specs.Loaded.{Loaded}
use Rattle.meta_model.specs.Members.{IsMethod}
use Rattle.effect_scan.specs.declared.node.Member.{Member}
use Rattle.effect_scan.specs.declared.node.Member.TheVariants.{Method, Property, Destruction}
use Rattle.effect_scan.specs.declared.node.Node.{Node}
use Rattle.effect_scan.specs.Edges.{MayLead}
use Rattle.settling.specs.Hands.{HandOn}

-- the method has one parameter, and is no native
pub record TakesOne (p : Loaded) (c m : ℕ) : Type 0 where
  pub method : MetaMethod
  pub is : IsMethod p c m method
  pub one : length method.types ≡ 1
  pub declared : (effects : MetaEffects) → method.work ≢ Native effects

abbrev pub CarriesAs : Loaded → ℕ → Member → Type 0
CarriesAs p c (Method m) = TakesOne p c m
CarriesAs p c (Property q) = Unit {0}
CarriesAs p c Destruction = ⊥

-- the node carries one value: a property that which it has, a method that which it is called with
abbrev pub Carries : Loaded → Node → Type 0
Carries p x = CarriesAs p x.class x.member

-- the node is a property
pub record IsProperty (x : Node) : Type 0 where
  pub number : ℕ
  pub is : x.member ≡ Property number

-- a chain of edges within the set, none of which leads to a property
pub data Silent (p : Loaded) (In : Node → Type 0) (x : Node) : Node → Type 0 where
  one : {y : Node} → In x → In y → MayLead p x y → (¬ IsProperty y) → Silent p In x y
  more : {y z : Node} → Silent p In x y → In z → MayLead p y z → (¬ IsProperty z) → Silent p In x z

-- The set settles: each of its nodes carries one value, each way between two of them hands it on, and no chain leads back
-- without a write of one of its properties.
pub record Settles (p : Loaded) (In : Node → Type 0) : Type 0 where
  pub carries : (x : Node) → In x → Carries p x
  pub hand_on : (x y : Node) → In x → In y → HandOn p x y
  pub returns : (x : Node) → ¬ Silent p In x x
