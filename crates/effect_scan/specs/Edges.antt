-- What may be done at once by what (docs/certificate.md, "Edges").
use Rattle.std.specs.{Prelude.{◌≡◌, ◌≢◌, ℕ, Some, slice_get}, List.{Contains}}
use Rattle.basic_types.specs.declared.kind.Kind.TheVariants.{Queued}
use Rattle.meta_model.specs.{declared.qobject.TheConstants.{DESTROYED}, declared.object.MetaMethod.{MetaMethod}, declared.object.MetaProperty.{MetaProperty}, declared.object.MetaWire.{MetaWire}, declared.site.SourceProperty.{SourceProperty}, declared.site.MetaSite.{MetaSite}, Loaded.{Loaded}, Members.{IsMethod, IsProperty, Below, IsIn}, Sites.{paths_in}}
use Rattle.effect_scan.specs.{declared.node.Node.{Node}, declared.node.Member.{Member}, declared.node.Member.TheVariants.{Method, Property, Destruction}, declared.effect.Reach.{Reach}, declared.effect.Effect.{Effect}, Nodes.{node, named, nodes_of, IsAt}, Effects.{WorkHas}, Destroying.{Closure}}
use Rattle.effect_scan.specs.declared.effect.Reach.TheVariants as reach

-- this member, in the class or in one below it
pub record AtOrBelow (p : Loaded) (c : ℕ) (member : Member) (x : Node) : Type 0 where
  pub below : Below p x.class c
  pub is : x.member ≡ member

-- the member of an object of class c itself, or of one that is of a class or below it
abbrev pub ReachedAs : Loaded → ℕ → Member → Reach → Node → Type 0
ReachedAs p c member reach.Own x = x ≡ node c member
ReachedAs p c member (reach.Below k) x = AtOrBelow p k member x

-- the effect does something to this member, for an object of class c
abbrev pub Reaches : Loaded → ℕ → Effect → Node → Type 0
Reaches p c effect x = ReachedAs p c effect.member effect.reach x

-- a method to what is done when it is called
pub record ByWork (p : Loaded) (x y : Node) : Type 0 where
  pub number : ℕ
  pub method : MetaMethod
  pub is : IsMethod p x.class number method
  pub from : x.member ≡ Method number
  pub effect : Effect
  pub has : WorkHas method.types method.work effect
  pub to : Reaches p x.class effect y

-- a signal to what it is wired to, but by a queued connection
pub record ByWire (p : Loaded) (x y : Node) : Type 0 where
  pub wire : MetaWire
  pub declared : IsIn wire p.wires
  pub at_once : wire.kind ≢ Queued
  pub from : AtOrBelow p wire.sender (Method (named wire.signal)) x
  pub to : AtOrBelow p wire.receiver (Method wire.method) y

-- a property to its notify signal
pub record ByNotify (p : Loaded) (x y : Node) : Type 0 where
  pub number : ℕ
  pub property : MetaProperty
  pub is : IsProperty p x.class number property
  pub from : x.member ≡ Property number
  pub signal : ℕ
  pub notifies : property.notify ≡ Some signal
  pub to : y ≡ node x.class (Method (named signal))

-- a property that a binding site reads to the one that it binds
pub record BySite (p : Loaded) (x y : Node) : Type 0 where
  pub site : MetaSite
  pub declared : IsIn site p.sites
  pub source : SourceProperty
  pub reads : Contains (paths_in site.formula) source
  pub class : ℕ
  pub formal : slice_get site.formals source.source ≡ Some class
  pub from : AtOrBelow p class (Property source.property) x
  pub to : AtOrBelow p site.class (Property site.property) y

-- the destruction of an object to the announcements of those that are destroyed with it
pub record ByDestruction (p : Loaded) (x y : Node) : Type 0 where
  pub from : x.member ≡ Destruction
  pub to : y.member ≡ Method DESTROYED
  pub closure : Closure p x.class y.class

-- one member may lead to another at once
pub data MayLead (p : Loaded) (x y : Node) : Type 0 where
  by_work : ByWork p x y → MayLead p x y
  by_wire : ByWire p x y → MayLead p x y
  by_notify : ByNotify p x y → MayLead p x y
  by_site : BySite p x y → MayLead p x y
  by_destruction : ByDestruction p x y → MayLead p x y

-- it does so between the nodes of these numbers
pub record LeadsAt (p : Loaded) (R : Node → Node → Type 0) (a b : ℕ) : Type 0 where
  pub from : Node
  pub to : Node
  pub is_from : IsAt (nodes_of p) from a
  pub is_to : IsAt (nodes_of p) to b
  pub leads : R from to
