-- What the declarations of one class say of connections and of owners: a class has them in common with those below it.
use Rattle.std.specs.Prelude.{◌≡◌, ℕ, ◌<◌, List, length}
use Rattle.basic_types.specs.declared.sig.Sig.{Sig}
use Rattle.basic_types.specs.declared.kind.Kind.{Kind}
use Rattle.meta_model.specs.declared.object.MetaWire.{MetaWire}
use Rattle.meta_model.specs.declared.object.MetaOwns.{MetaOwns}
use Rattle.meta_model.specs.Loaded.{Loaded}
use Rattle.meta_model.specs.Members.{Below, HasSig}
use Rattle.name_indexes.specs.Places.{StandsAt}

-- an item that belongs to class c and of which Q holds is at this place, and there is such a class
pub record StandsFor {X : Type 0} (p : Loaded) (class_of : X → ℕ) (items : List X) (Q : X → Type 0) (c k : ℕ) : Type 0 where
  pub there : c < length p.classes
  pub belongs : StandsAt (λ x. class_of x ≡ c) items k
  pub holds : StandsAt Q items k

-- a declaration by which an object of class d may be a child
abbrev pub MayOwn : Loaded → ℕ → MetaOwns → Type 0
MayOwn p d owns = Below p d owns.child

-- a declaration whose parent's class is c says so
abbrev pub OwnsFrom : Loaded → ℕ → ℕ → Type 0
OwnsFrom p c d = (k : ℕ) × StandsFor p (λ o. o.parent) p.owns (MayOwn p d) c k

-- a wire that covers a connection with these signatures, of this kind, to an object of class d, where its sender fits
pub record Joins (p : Loaded) (signal : Sig) (d : ℕ) (method : Sig) (kind : Kind) (wire : MetaWire) : Type 0 where
  pub receiver : Below p d wire.receiver
  pub from : HasSig p wire.sender signal wire.signal
  pub to : HasSig p wire.receiver method wire.method
  pub same_kind : wire.kind ≡ kind

-- a wire whose sender's class is c covers it
abbrev pub CoversFrom : Loaded → ℕ → Sig → ℕ → Sig → Kind → Type 0
CoversFrom p c signal d method kind = (k : ℕ) × StandsFor p (λ w. w.sender) p.wires (Joins p signal d method kind) c k
