-- Typed programs (docs/certificate.md, "Typing").
use Rattle.std.specs.{Prelude.{◌≡◌, ℕ, List, Option, None, Some, slice_get}, Option.{option_and_then, option_map}}
use Rattle.meta_model.specs.{declared.object.ValueType.{ValueType}, declared.object.Statement.{Statement}, declared.object.Work.{Work}, declared.object.Work.TheVariants.{Slot}, declared.object.MetaMethod.{MetaMethod}, declared.object.MetaProperty.{MetaProperty}, declared.site.SourceProperty.{SourceProperty}, declared.site.MetaSite.{MetaSite}, Loaded.{Loaded}, Members.{IsMethod, IsProperty, property_at, Below, Declares}, Values.{Has}}
use Rattle.name_indexes.specs.Places.{StandsFirst}
use Rattle.effect_scan.specs.{declared.node.Node.{Node}, declared.node.Member.{Member}, declared.node.Member.TheVariants.{Method, Property, Destruction}, Nodes.{nodes_of}}
use Rattle.edge_reasons.specs.Order.{in_order, capped}
use Rattle.type_check.specs.{declared.spot.Spot.{Spot}, Firsts.{AllHave, LacksFirst, IsFirstWithout}, Accepting.{IsGiven}, Bodies.{IsUntyped, IsTypedBody}}
use Rattle.type_check.specs.declared.spot.Spot.TheVariants as spot

-- ---- members
-- a slot's body is typed, where class d declares the slot; nothing else of a method needs a type
abbrev pub IsTypedWork : Loaded → ℕ → List ValueType → Work → Type 0
IsTypedWork p d types (Slot body) = IsTypedBody p d types body
IsTypedWork p d types work = Unit {0}

-- method m of class c, in the class that declares it
abbrev pub IsTypedMethod : Loaded → ℕ → ℕ → Type 0
IsTypedMethod p c m =
    (d : ℕ) (method : MetaMethod) → Below p c d → Declares p d m → IsMethod p d m method → IsTypedWork p d method.types method.work

-- property q of class c: its value at first is of its type, whatever objects there are
abbrev pub IsTypedProperty : Loaded → ℕ → ℕ → Type 0
IsTypedProperty p c q =
    (property : MetaProperty) (classes : ℕ → Option ℕ) → IsProperty p c q property → Has p classes property.initial property.kind

-- a node
abbrev pub IsTypedMember : Loaded → ℕ → Member → Type 0
IsTypedMember p c (Method m) = IsTypedMethod p c m
IsTypedMember p c (Property q) = IsTypedProperty p c q
IsTypedMember p c Destruction = Unit {0}

abbrev pub IsTypedNode : Loaded → Node → Type 0
IsTypedNode p x = IsTypedMember p x.class x.member

-- ---- bindings
-- the declared type of a property of a formal source
abbrev pub kind_in : Loaded → ℕ → ℕ → Option ValueType
kind_in p c q = option_map (λ (property : MetaProperty). property.kind) (property_at p c q)

abbrev pub kind_of_source : Loaded → List ℕ → SourceProperty → Option ValueType
kind_of_source p formals s = option_and_then (λ c. kind_in p c s.property) (slice_get formals s.source)

-- the expression is of the target's type, which is a value type
pub record IsTypedSite (p : Loaded) (site : MetaSite) : Type 0 where
  pub property : MetaProperty
  pub is : IsProperty p site.class site.property property
  pub given : IsGiven p (kind_of_source p site.formals) property.kind site.formula

-- ---- the program
abbrev pub AreTypedNodes : Loaded → Type 0
AreTypedNodes p = AllHave (IsTypedNode p) (nodes_of p)

abbrev pub AreTypedSites : Loaded → Type 0
AreTypedSites p = AllHave (IsTypedSite p) p.sites

pub record IsTypedProgram (p : Loaded) : Type 0 where
  pub nodes : AreTypedNodes p
  pub sites : AreTypedSites p

-- all nodes are typed, but the binding site of this number is the first that isn't
pub record IsUntypedSite (p : Loaded) (site : ℕ) : Type 0 where
  pub nodes : AreTypedNodes p
  pub first : IsFirstWithout (IsTypedSite p) p.sites site

-- this node is the first that isn't typed
pub record IsUntypedNode (p : Loaded) (x : Node) : Type 0 where
  pub number : ℕ
  pub first : LacksFirst (IsTypedNode p) (nodes_of p) number x

-- the first node that isn't typed, else the first such binding site, and nothing where all are typed
abbrev pub FindsNode : Loaded → Option Node → Type 0
FindsNode p None = AreTypedNodes p
FindsNode p (Some x) = IsUntypedNode p x

abbrev pub FindsUntyped : Loaded → Option Spot → Type 0
FindsUntyped p None = IsTypedProgram p
FindsUntyped p (Some (spot.Node x)) = IsUntypedNode p x
FindsUntyped p (Some (spot.Binding site)) = IsUntypedSite p site

-- ---- what is said of a node by itself: an inherited method is judged where it is declared
abbrev pub IsTypedMemberHere : Loaded → ℕ → Member → Type 0
IsTypedMemberHere p c (Method m) = Declares p c m → IsTypedMethod p c m
IsTypedMemberHere p c (Property q) = IsTypedProperty p c q
IsTypedMemberHere p c Destruction = Unit {0}

abbrev pub IsTypedHere : Loaded → Node → Type 0
IsTypedHere p x = IsTypedMemberHere p x.class x.member

-- a part of the program is typed; what isn't there is taken to be
abbrev pub IsTypedSpot : Loaded → Spot → Type 0
IsTypedSpot p (spot.Node x) = IsTypedHere p x
IsTypedSpot p (spot.Binding k) = (site : MetaSite) → slice_get p.sites k ≡ Some site → IsTypedSite p site

-- ---- which statement a flaw is in
-- the first statement that isn't typed, in the order of the text, of the body of method m of class c
pub record IsUntypedStatement (p : Loaded) (c m : ℕ) (told : Option ℕ) : Type 0 where
  pub method : MetaMethod
  pub is : IsMethod p c m method
  pub body : List Statement
  pub slot : method.work ≡ Slot body
  pub place : ℕ
  pub first : StandsFirst (IsUntyped p c method.types) (in_order body) place
  pub counted : told ≡ Some (capped place)

-- of what isn't a method, none
abbrev pub IsInMember : Loaded → ℕ → Member → Option ℕ → Type 0
IsInMember p c (Method m) told = IsUntypedStatement p c m told
IsInMember p c (Property q) told = told ≡ None
IsInMember p c Destruction told = told ≡ None

abbrev pub IsInSpot : Loaded → Spot → Option ℕ → Type 0
IsInSpot p (spot.Node x) told = IsInMember p x.class x.member told
IsInSpot p (spot.Binding k) told = told ≡ None
