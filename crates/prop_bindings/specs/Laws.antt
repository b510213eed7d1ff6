-- A write and a bind have one outcome, as settled values are determined by the bindings and by what isn't bound; and objects
-- and bindings agree from the first object on, whatever is done to the objects otherwise (docs/machine.md, "Bindings").
use Rattle.std.specs.Prelude.{◌≡◌, ℕ, Bool, List, []}
use Rattle.meta_model.specs.Loaded.{Loaded}
use Rattle.object_tree.specs.declared.life.Life.{Life}
use Rattle.object_tree.specs.declared.object.Object.{Object}
use Rattle.object_tree.specs.Adopting.{IsAdopted}
use Rattle.object_tree.specs.Creating.{IsCreated}
use Rattle.object_tree.specs.Family.{without_life}
use Rattle.object_tree.specs.Objects.{blocked, change_life, scheduled}
use Rattle.object_tree.specs.Typed.{AreTyped}
use Rattle.binding_graph.specs.declared.place.Place.{Place}
use Rattle.prop_bindings.specs.declared.plans.assignment.Assignment.{Assignment}
use Rattle.binding_graph.specs.declared.binding.Binding.{Binding}
use Rattle.binding_graph.specs.Bindings.{binding_at, replaced, dropped, Loop}
use Rattle.prop_bindings.specs.Changes.{IsWritten, IsInstalled}
use Rattle.prop_bindings.specs.Fits.{Agree}

-- what a write makes of bindings and objects that agree is one thing
abbrev pub WrittenOnce : Type 0
WrittenOnce = (p : Loaded) (bs : List Binding) (old : List Object) (writes : List Assignment) → Agree p old bs
    → (cs ds : List Binding) (new other : List Object) (changed others : List Place)
    → IsWritten bs cs old new writes changed → IsWritten bs ds old other writes others
    → (cs ≡ ds) × (new ≡ other) × (changed ≡ others)

-- what a bind makes of bindings and objects that agree is one thing, unless it closes a chain
abbrev pub InstalledOnce : Type 0
InstalledOnce = (p : Loaded) (bs : List Binding) (old : List Object) (b : Binding) → Agree p old bs → (¬ Loop (binding_at (replaced bs b)))
    → (cs ds : List Binding) (new other : List Object) (changed others : List Place)
    → IsInstalled bs cs old new b changed → IsInstalled bs ds old other b others
    → (cs ≡ ds) × (new ≡ other) × (changed ≡ others)

-- what is left of bindings and objects that agree, once an object is dead, agrees
abbrev pub LeftAgree : Type 0
LeftAgree = (p : Loaded) (bs : List Binding) (objects : List Object) (o : ℕ) → Agree p objects bs
    → Agree p (without_life o objects) (dropped o bs)

-- where nothing is bound, objects whose values are of their types agree with that
abbrev pub UnboundAgree : Type 0
UnboundAgree = (p : Loaded) (objects : List Object) → AreTyped p objects → Agree p objects []

-- what agrees goes on to where an object is created
abbrev pub CreatedAgree : Type 0
CreatedAgree = (p : Loaded) (bs : List Binding) (old new : List Object) (name class : List ℕ) (home o : ℕ) → Agree p old bs
    → IsCreated p old name class home o new → Agree p new bs

-- .. where one gets a parent
abbrev pub AdoptedAgree : Type 0
AdoptedAgree = (p : Loaded) (bs : List Binding) (old new : List Object) (parent child : ℕ) (life : Life) → Agree p old bs
    → IsAdopted parent child life old new → Agree p new bs

-- .. where the signals of one are blocked, or no longer
abbrev pub BlockedAgree : Type 0
BlockedAgree = (p : Loaded) (bs : List Binding) (objects : List Object) (o : ℕ) (on : Bool) → Agree p objects bs
    → Agree p (change_life o (blocked on) objects) bs

-- .. where the deletion of one is scheduled
abbrev pub ScheduledAgree : Type 0
ScheduledAgree = (p : Loaded) (bs : List Binding) (objects : List Object) (o : ℕ) → Agree p objects bs
    → Agree p (change_life o scheduled objects) bs
