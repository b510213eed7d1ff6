-- The loops in which objects live.
use Rattle.std.proofs.Common.{◌≡◌, ◌⊎◌, ℕ, zero, suc, ◌<◌, ◌++◌, List, [], ◌∷◌, length, Option, None, Some, inl, inr, refl, sym, ap, ◌∙◌, arith, length-append}
use Rattle.std.specs.Option.{option_map, option_and_then}
use Rattle.event_loops.specs.Queues.{Loop, HasName}
use Rattle.object_tree.specs.declared.life.Life.{Life}
use Rattle.object_tree.specs.declared.object.Object.{Object}
use Rattle.object_tree.specs.Family.{moved, put_under}
use Rattle.object_tree.proofs.Changing.{life-part}
use Rattle.object_tree.proofs.Families.{moved-part}
use Rattle.meta_model.specs.Loaded.{Loaded}
use Rattle.object_tree.specs.Objects.{home_of}
use Rattle.machine_rules.specs.code.Sound.{AreHoused, AllWait}
use Rattle.object_machine.specs.Events.{IsHome}

-- a loop that has a name is there
pub named-within : (loops : List Loop) (name : List ℕ) (home : ℕ) → HasName loops name home → home < length loops
named-within [] name home e = absurd (cc e)
named-within (l ∷ loops) name zero e = omega arith
named-within (l ∷ loops) name (suc home) e = let more = named-within loops name home e in omega (arith, more)

-- with an object more, each lives where it lived, or is that one
home-more : (objects : List Object) (x : Object) (l : Life) (o home : ℕ) → x.life ≡ Some l → home_of (objects ++ x ∷ []) o ≡ Some home → (home_of objects o ≡ Some home) ⊎ (l.home ≡ home)
home-more [] x l zero home alive is = let same : Some l.home ≡ Some home = sym (ap (option_map (λ (m : Life). m.home)) alive) ∙ is in inr (cc same)
home-more [] x l (suc o) home alive is = absurd (cc is)
home-more (y ∷ objects) x l zero home alive is = inl is
home-more (y ∷ objects) x l (suc o) home alive is = home-more objects x l o home alive is

-- an object more, in a loop that is there
pub housed-more : (objects : List Object) (x : Object) (l : Life) (loops : List Loop) → x.life ≡ Some l → AreHoused objects loops → l.home < length loops → AreHoused (objects ++ x ∷ []) loops
housed-more objects x l loops alive housed lives = record {
  has_main = housed.has_main;
  each = λ o home is. elim (home-more objects x l o home alive is) [
    | inl before ↦ housed.each o home before
    | inr same ↦ omega (arith, same, lives)
  ];
}

-- a loop more
pub housed-loop : (objects : List Object) (loops : List Loop) (name : List ℕ) → AreHoused objects loops → AreHoused objects (loops ++ record { name = name; items = [] } ∷ [])
housed-loop objects loops name housed =
    let l : Loop = record { name = name; items = [] } in
    let more = length-append loops (l ∷ []) in
    record { has_main = omega (arith, housed.has_main, more); each = λ o home is. let lives = housed.each o home is in omega (arith, lives, more) }

-- nothing waits in it
pub waiting-loop : (p : Loaded) (objects : List Object) (loops : List Loop) (name : List ℕ) → AllWait p objects loops → AllWait p objects (loops ++ record { name = name; items = [] } ∷ [])
waiting-loop p objects [] name all = (tt, tt)
waiting-loop p objects (l ∷ loops) name all = (all.0, waiting-loop p objects loops name all.1)

-- the loop that is named, or `main`, is there
pub home-there : (loops : List Loop) (home : ℕ) (loop : Option (List ℕ)) → 0 < length loops → IsHome loops loop home → home < length loops
home-there loops home None main e = omega (arith, main, e)
home-there loops home (Some name) main is = named-within loops name home is.has

-- an object that gets another parent lives on in its loop
pub home-moved : (a c : ℕ) (objects : List Object) (o : ℕ) → home_of (moved a c objects) o ≡ home_of objects o
home-moved a c objects o =
    moved-part (λ (there : Option Object). option_map (λ (l : Life). l.home) (option_and_then (λ (x : Object). x.life) there)) objects a c o (λ x l. refl)
    (λ x. life-part (option_map (λ (l : Life). l.home)) (put_under a) (λ l. refl) x.life)
