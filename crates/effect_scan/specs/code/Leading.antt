-- Edges by the numbers of nodes, as they are read off declarations and bodies.
use Rattle.std.specs.Prelude.{◌≡◌, ◌≢◌, ℕ, List, Some}
use Rattle.basic_types.specs.declared.kind.Kind.TheVariants.{Queued}
use Rattle.meta_model.specs.declared.qobject.TheConstants.{DESTROYED}
use Rattle.meta_model.specs.declared.object.MetaObject.{MetaObject}
use Rattle.meta_model.specs.declared.object.MetaMethod.{MetaMethod}
use Rattle.meta_model.specs.declared.object.MetaProperty.{MetaProperty}
use Rattle.meta_model.specs.declared.object.MetaWire.{MetaWire}
use Rattle.meta_model.specs.declared.site.MetaSite.{MetaSite}
use Rattle.meta_model.specs.Sites.{paths_in}
use Rattle.meta_model.specs.Loaded.{Loaded}
use Rattle.effect_scan.specs.declared.node.Member.TheVariants.{Method, Property, Destruction}
use Rattle.effect_scan.specs.declared.effect.Effect.{Effect}
use Rattle.effect_scan.specs.declared.places.NodePlaces.{NodePlaces}
use Rattle.effect_scan.specs.Nodes.{node, named, IsAt}
use Rattle.effect_scan.specs.Effects.{WorkHas}
use Rattle.effect_scan.specs.code.Adding.{Adds, Among}
use Rattle.effect_scan.specs.code.NodePlaces.{InEach, InBelow, IsReached, IsRead, OfSome}

pub record WireLeads (places : NodePlaces) (wire : MetaWire) (a b : ℕ) : Type 0 where
  pub at_once : wire.kind ≢ Queued
  pub from : InBelow places wire.sender (Method (named wire.signal)) a
  pub to : InBelow places wire.receiver (Method wire.method) b

-- method m of class c
pub record MethodLeads (places : NodePlaces) (c m : ℕ) (method : MetaMethod) (a b : ℕ) : Type 0 where
  pub from : IsAt places.numbering (node c (Method m)) a
  pub effect : Effect
  pub has : WorkHas method.types method.work effect
  pub to : IsReached places c effect b

-- what the method's work does something to, for an object of class c
pub record WorkReaches (places : NodePlaces) (c : ℕ) (method : MetaMethod) (b : ℕ) : Type 0 where
  pub effect : Effect
  pub has : WorkHas method.types method.work effect
  pub to : IsReached places c effect b

abbrev pub MethodsLead : NodePlaces → ℕ → MetaObject → ℕ → ℕ → Type 0
MethodsLead places c class = Among (MethodLeads places c) class.methods

-- property q of class c
pub record PropertyLeads (places : NodePlaces) (c q : ℕ) (property : MetaProperty) (a b : ℕ) : Type 0 where
  pub signal : ℕ
  pub notifies : property.notify ≡ Some signal
  pub from : IsAt places.numbering (node c (Property q)) a
  pub to : IsAt places.numbering (node c (Method (named signal))) b

-- property q of class c, whose notify signal is this one
pub record Notifies (places : NodePlaces) (c q signal a b : ℕ) : Type 0 where
  pub from : IsAt places.numbering (node c (Property q)) a
  pub to : IsAt places.numbering (node c (Method signal)) b

abbrev pub PropertiesLead : NodePlaces → ℕ → MetaObject → ℕ → ℕ → Type 0
PropertiesLead places c class = Among (PropertyLeads places c) class.properties

-- the properties that a binding site reads, and the one that it binds
pub record SiteLeads (places : NodePlaces) (site : MetaSite) (a b : ℕ) : Type 0 where
  pub from : OfSome (IsRead places site.formals) (paths_in site.formula) a
  pub to : InBelow places site.class (Property site.property) b

-- class c, with which objects of these classes are destroyed
pub record ClosureLeads (places : NodePlaces) (c : ℕ) (closure : List ℕ) (a b : ℕ) : Type 0 where
  pub from : IsAt places.numbering (node c Destruction) a
  pub to : InEach places.numbering closure (Method DESTROYED) b

-- ---- whole programs
abbrev pub WiresLead : NodePlaces → List MetaWire → ℕ → ℕ → Type 0
WiresLead places wires = Among (λ (_ : ℕ). WireLeads places) wires

abbrev pub WorksLead : NodePlaces → List MetaObject → ℕ → ℕ → Type 0
WorksLead places classes = Among (MethodsLead places) classes

abbrev pub NotifiersLead : NodePlaces → List MetaObject → ℕ → ℕ → Type 0
NotifiersLead places classes = Among (PropertiesLead places) classes

abbrev pub SitesLead : NodePlaces → List MetaSite → ℕ → ℕ → Type 0
SitesLead places sites = Among (λ (_ : ℕ). SiteLeads places) sites

abbrev pub ClosuresLead : NodePlaces → List (List ℕ) → ℕ → ℕ → Type 0
ClosuresLead places closures = Among (ClosureLeads places) closures

-- what is added of the declarations that give a node edges of its own
pub record AddsOwn (p : Loaded) (places : NodePlaces) (destroyed before after : List (List ℕ)) : Type 0 where
  pub first : List (List ℕ)
  pub second : List (List ℕ)
  pub works : Adds (WorksLead places p.classes) before first
  pub notifiers : Adds (NotifiersLead places p.classes) first second
  pub closures : Adds (ClosuresLead places destroyed) second after
