-- When an object gets a parent, and why not (docs/machine.md, "Objects" and "Events"; Qt 6, `QObject::setParent`).
use Rattle.std.specs.Prelude.{◌≡◌, ◌≢◌, ℕ, List, Result, Ok, Err, Some}
use Rattle.meta_model.specs.Loaded.{Loaded}
use Rattle.meta_model.specs.Members.{Owns}
use Rattle.object_tree.specs.declared.fault.AdoptFault.{AdoptFault}
use Rattle.object_tree.specs.declared.fault.AdoptFault.TheVariants.{NotOwned, Cycle, OtherLoop, Memory}
use Rattle.object_tree.specs.declared.life.Life.{Life}
use Rattle.object_tree.specs.declared.object.Object.{Object}
use Rattle.object_tree.specs.Family.{Above, moved}
use Rattle.object_tree.specs.Objects.{Lives}

-- object a, which lives the life x, may become the parent of object c, which lives the life y
pub record MayAdopt (p : Loaded) (objects : List Object) (a c : ℕ) (x y : Life) : Type 0 where
  pub owns : Owns p x.class y.class
  pub no_cycle : ¬ Above objects c a
  pub one_loop : x.home ≡ y.home

-- why it may not: the first of these that holds; or memory was refused
pub data IsNotAdopted (p : Loaded) (objects : List Object) (a c : ℕ) (x y : Life) : AdoptFault → Type 0 where
  not_owned : (¬ Owns p x.class y.class) → IsNotAdopted p objects a c x y NotOwned
  cycle : Owns p x.class y.class → Above objects c a → IsNotAdopted p objects a c x y Cycle
  other_loop : Owns p x.class y.class → (¬ Above objects c a) → x.home ≢ y.home
      → IsNotAdopted p objects a c x y OtherLoop
  no_memory : IsNotAdopted p objects a c x y Memory

-- whether it may
abbrev pub JudgesAdoption : Loaded → List Object → ℕ → ℕ → Life → Life → Result (Unit {0}) AdoptFault → Type 0
JudgesAdoption p objects a c x y (Ok may) = MayAdopt p objects a c x y
JudgesAdoption p objects a c x y (Err fault) = IsNotAdopted p objects a c x y fault

-- under the same parent nothing changes; else the child moves
pub record IsAdopted (a c : ℕ) (y : Life) (old new : List Object) : Type 0 where
  pub same : y.parent ≡ Some a → new ≡ old
  pub other : y.parent ≢ Some a → new ≡ moved a c old

-- what `adopt` answers for living objects, with the objects before and after it
abbrev pub Adopts : Loaded → ℕ → ℕ → Life → Life → List Object → Result (Unit {0}) AdoptFault → List Object
    → Type 0
Adopts p a c x y old (Ok done) new = MayAdopt p old a c x y × IsAdopted a c y old new
Adopts p a c x y old (Err fault) new = IsNotAdopted p old a c x y fault × (new ≡ old)

-- what `adopt` answers for whatever objects have these numbers and live
abbrev pub AdoptsLiving : Loaded → ℕ → ℕ → List Object → Result (Unit {0}) AdoptFault → List Object → Type 0
AdoptsLiving p a c old result new =
    (u v : Object) (x y : Life) → Lives old a u x → Lives old c v y → Adopts p a c x y old result new

-- the answer where one of the two is gone, or memory was refused
pub data MayBeGone : AdoptFault → Type 0 where
  nobody : MayBeGone NotOwned
  short : MayBeGone Memory
