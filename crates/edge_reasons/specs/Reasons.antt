-- What draws an edge (docs/certificate.md, "Edges").
use Rattle.std.specs.{Prelude.{◌≡◌, ◌≢◌, ℕ, List, Some, slice_get}, List.{Contains}}
use Rattle.syntax_trees.specs.declared.syntax.Expr.{Expr}
use Rattle.basic_types.specs.declared.kind.Kind.TheVariants.{Queued}
use Rattle.meta_model.specs.{declared.qobject.TheConstants.{DESTROYED}, declared.object.ValueType.{ValueType}, declared.object.Statement.{Statement}, declared.object.Statement.TheViews.{out-Statement}, declared.object.MetaWire.{MetaWire}, declared.object.MetaMethod.{MetaMethod}, declared.object.Work.TheVariants.{Slot, Native}, declared.effects.MetaEffects.{MetaEffects}, declared.site.MetaSite.{MetaSite}, declared.site.SourceProperty.{SourceProperty}, Loaded.{Loaded}, Members.{IsMethod}, Sites.{paths_in}}
use Rattle.name_indexes.specs.Places.{StandsFirst}
use Rattle.effect_scan.specs.{declared.node.Node.{Node}, declared.node.Member.{Member}, declared.node.Member.TheVariants.{Method, Property, Destruction}, declared.effect.Reach.TheVariants.{Own}, declared.effect.Effect.{Effect}, Nodes.{node, named}, Effects.{effect_of, Occurs, NativeHas}, Edges.{AtOrBelow, Reaches, ByWork, ByNotify, MayLead}, Destroying.{Closure}}
use Rattle.edge_reasons.specs.{declared.reasons.Reason.{Reason}, Order.{in_order, capped}}
use Rattle.edge_reasons.specs.declared.reasons.Reason.TheVariants as reason

-- a statement of the body of a slot of class c does something to the node at once
pub record BodyLeads (p : Loaded) (c : ℕ) (types : List ValueType) (body : List Statement) (y : Node) : Type 0 where
  pub statement : Statement
  pub occurs : Occurs statement body
  pub effect : Effect
  pub is : effect_of types (out-Statement statement) ≡ Some effect
  pub to : Reaches p c effect y

-- the statement does something to the node at once, by itself
pub record DoesTo (p : Loaded) (c : ℕ) (types : List ValueType) (t : Statement) (y : Node) : Type 0 where
  pub effect : Effect
  pub is : effect_of types (out-Statement t) ≡ Some effect
  pub to : Reaches p c effect y

-- the node is a native
pub record IsNative (p : Loaded) (x : Node) : Type 0 where
  pub number : ℕ
  pub method : MetaMethod
  pub is : IsMethod p x.class number method
  pub from : x.member ≡ Method number
  pub effects : MetaEffects
  pub native : method.work ≡ Native effects

-- the native of class c may do something to the node, a member of the object itself
pub record NativeLeads (c : ℕ) (effects : MetaEffects) (y : Node) : Type 0 where
  pub member : Member
  pub has : NativeHas effects (record { reach = Own; member = member })
  pub to : y ≡ node c member

-- the wire leads from the one node to the other at once
pub record WireJoins (p : Loaded) (x y : Node) (wire : MetaWire) : Type 0 where
  pub at_once : wire.kind ≢ Queued
  pub from : AtOrBelow p wire.sender (Method (named wire.signal)) x
  pub to : AtOrBelow p wire.receiver (Method wire.method) y

-- the node is a property of a formal source, where these are of these classes
pub record IsSource (p : Loaded) (formals : List ℕ) (x : Node) (source : SourceProperty) : Type 0 where
  pub class : ℕ
  pub formal : slice_get formals source.source ≡ Some class
  pub from : AtOrBelow p class (Property source.property) x

-- the node is a property of a formal source that the expression reads
pub record Reads (p : Loaded) (formals : List ℕ) (x : Node) (e : Expr SourceProperty) : Type 0 where
  pub source : SourceProperty
  pub among : Contains (paths_in e) source
  pub is : IsSource p formals x source

-- the binding reads the one node for the other
pub record SiteBinds (p : Loaded) (x y : Node) (site : MetaSite) : Type 0 where
  pub reads : Reads p site.formals x site.formula
  pub to : AtOrBelow p site.class (Property site.property) y

-- a statement of the slot's body does something to the node by itself, and before the one of this number none does
pub record StatementDraws (p : Loaded) (x y : Node) (number : ℕ) : Type 0 where
  pub method_number : ℕ
  pub method : MetaMethod
  pub is : IsMethod p x.class method_number method
  pub from : x.member ≡ Method method_number
  pub body : List Statement
  pub slot : method.work ≡ Slot body
  pub place : ℕ
  pub first : StandsFirst (λ t. DoesTo p x.class method.types t y) (in_order body) place
  pub counted : number ≡ capped place

-- The destruction announces a destruction: where it leads to that at all, one of the classes that are destroyed with this one
-- announces its own.
pub record IsAnnounced (p : Loaded) (x y : Node) : Type 0 where
  pub from : x.member ≡ Destruction
  pub to : y.member ≡ Method DESTROYED
  pub with_it : MayLead p x y → Closure p x.class y.class

-- this draws the edge from the one node to the other, and nothing that is asked before it does
abbrev pub Draws : Loaded → Node → Node → Reason → Type 0
Draws p x y (reason.Statement k) = ByWork p x y × StatementDraws p x y k
Draws p x y reason.Native = ByWork p x y × IsNative p x
Draws p x y (reason.Wire k) = (¬ ByWork p x y) × StandsFirst (WireJoins p x y) p.wires k
Draws p x y reason.Notify = ByNotify p x y
Draws p x y (reason.Binding k) = (¬ ByNotify p x y) × StandsFirst (SiteBinds p x y) p.sites k
Draws p x y reason.Deletion = IsAnnounced p x y
