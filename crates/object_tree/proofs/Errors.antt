-- Running out of memory, behind a `?`.
use Rattle.std.proofs.Common.{◌≡◌, ℕ, List, Result, Ok, Err, subst, sym}
use Rattle.std.specs.Result.{IsErrAnd}
use Rattle.meta_model.specs.Loaded.{Loaded}
use Rattle.object_tree.specs.declared.fault.AdoptFault.{AdoptFault}
use Rattle.object_tree.specs.declared.fault.AdoptFault.TheVariants as adopt
use Rattle.object_tree.specs.declared.fault.CreateFault.{CreateFault}
use Rattle.object_tree.specs.declared.fault.CreateFault.TheVariants as create
use Rattle.object_tree.specs.declared.life.Life.{Life}
use Rattle.object_tree.specs.declared.object.Object.{Object}
use Rattle.object_tree.specs.Adopting.{Adopts, IsNotAdopted, no_memory as adopt_no_memory}
use Rattle.object_tree.specs.Creating.{Creates, IsNotCreated, no_memory as create_no_memory}

pub creates-short : (p : Loaded) (old new : List Object) (name class : List ℕ) (home : ℕ) (r : Result ℕ CreateFault) → IsErrAnd r (λ f. f ≡ create.Memory) → new ≡ old → Creates p old name class home r new
creates-short p old new name class home (Ok o) is same = absurd is
creates-short p old new name class home (Err f) is same =
    (subst (λ (g : CreateFault). IsNotCreated p old name class g) (sym is) create_no_memory, same)

pub adopts-short : (p : Loaded) (a c : ℕ) (x y : Life) (old new : List Object) (r : Result (Unit {0}) AdoptFault) → IsErrAnd r (λ f. f ≡ adopt.Memory) → new ≡ old → Adopts p a c x y old r new
adopts-short p a c x y old new (Ok done) is same = absurd is
adopts-short p a c x y old new (Err f) is same =
    (subst (λ (g : AdoptFault). IsNotAdopted p old a c x y g) (sym is) adopt_no_memory, same)
