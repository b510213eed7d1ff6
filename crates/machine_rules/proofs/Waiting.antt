-- Where objects live, and what waits in event loops that change.
use Rattle.std.proofs.Common.{◌≡◌, ℕ, zero, suc, ◌<◌, Bool, true, false, cond, List, [], ◌∷◌, length, map, not, Option, None, Some, refl, sym, ap, ◌∙◌, arith}
use Rattle.std.specs.List.{AllByRecursion, find}
use Rattle.std.specs.Option.{option_map, option_and_then}
use Rattle.meta_model.specs.Loaded.{Loaded}
use Rattle.event_loops.specs.declared.item.Posted.{Posted}
use Rattle.event_loops.specs.Queues.{Loop, HasName, name_at, items_at, change, is_before, without_first, is_for, with_item, without_first_before, without_object}
use Rattle.object_tree.specs.declared.object.Object.{Object}
use Rattle.object_tree.specs.declared.life.Life.{Life}
use Rattle.object_tree.specs.Objects.{change_life, with_life}
use Rattle.object_tree.proofs.Changing.{part-change, life-part}
use Rattle.object_tree.specs.Objects.{home_of}
use Rattle.machine_state.proofs.Due.{found-among}
use Rattle.machine_rules.proofs.Lists.{all-snoc, all-filtered}
use Rattle.machine_rules.specs.code.Sound.{AreHoused, Waits, AllWait}

-- ---- homes

-- a change of a loop leaves the others
pub length-change : (home : ℕ) (f : Loop → Loop) (loops : List Loop) → length (change home f loops) ≡ length loops
length-change home f [] = refl
length-change zero f (l ∷ loops) = refl
length-change (suc home) f (l ∷ loops) = ap suc (length-change home f loops)

-- objects that live where they lived
pub housed-same : (old new : List Object) (loops more : List Loop) → ((o : ℕ) → home_of new o ≡ home_of old o) → length more ≡ length loops → AreHoused old loops → AreHoused new more
housed-same old new loops more same long housed = record {
  has_main = omega (arith, housed.has_main, long);
  each = λ o home is.
      let lived : home < length loops = housed.each o home (sym (same o) ∙ is) in
      omega (arith, lived, long);
}

-- an object lives on in its loop as its life changes in other parts
pub home-change : (o : ℕ) (f : Life → Life) (objects : List Object) → ((l : Life) → (f l).home ≡ l.home) → (k : ℕ) → home_of (change_life o f objects) k ≡ home_of objects k
home-change o f objects same k =
    part-change (λ (there : Option Object). option_map (λ (l : Life). l.home) (option_and_then (λ (x : Object). x.life) there)) o k (with_life f) objects
    (λ x. life-part (option_map (λ (l : Life). l.home)) f (λ l. ap (λ (n : ℕ). Some n) (same l)) x.life)

-- a loop that is there has a name
pub loop-named : (loops : List Loop) (home : ℕ) → home < length loops → (name : List ℕ) × HasName loops name home
loop-named [] home h = absurd (omega (arith, h))
loop-named (l ∷ loops) zero h = (l.name, refl)
loop-named (l ∷ loops) (suc home) h = loop-named loops home (omega (arith, h))

pub no-loop : (loops : List Loop) (home : ℕ) → home < length loops → None ≡ name_at loops home → ⊥
no-loop loops home there none =
    let named = loop-named loops home there in
    let no : None ≡ Some named.0 = none ∙ named.1 in
    absurd (cc no)

-- ---- items

-- an item more
pub all-posted : (p : Loaded) (objects : List Object) (home : ℕ) (q : Posted) (loops : List Loop) → Waits p objects q.item → AllWait p objects loops → AllWait p objects (change home (with_item q) loops)
all-posted p objects home q [] waits all = tt
all-posted p objects zero q (l ∷ loops) waits all = (all-snoc (λ (r : Posted). Waits p objects r.item) l.items q all.0 waits, all.1)
all-posted p objects (suc home) q (l ∷ loops) waits all = (all.0, all-posted p objects home q loops waits all.1)

-- an item less
all-but-first : (P : Posted → Type 0) (test : Posted → Bool) (items : List Posted) → AllByRecursion P items → AllByRecursion P (without_first test items)
all-but-first P test [] all = tt
all-but-first P test (q ∷ items) all = by_test (test q) (all-but-first P test items all.1)
  where
    by_test : (b : Bool) → AllByRecursion P (without_first test items) → AllByRecursion P (cond b items (q ∷ without_first test items))
    by_test true rest = all.1
    by_test false rest = (all.0, rest)

pub all-taken : (p : Loaded) (objects : List Object) (home number : ℕ) (loops : List Loop) → AllWait p objects loops → AllWait p objects (change home (without_first_before number) loops)
all-taken p objects home number [] all = tt
all-taken p objects zero number (l ∷ loops) all = (all-but-first (λ (q : Posted). Waits p objects q.item) (is_before number) l.items all.0, all.1)
all-taken p objects (suc home) number (l ∷ loops) all = (all.0, all-taken p objects home number loops all.1)

-- no item of an object any more
pub all-dropped : (p : Loaded) (objects : List Object) (x : ℕ) (loops : List Loop) → AllWait p objects loops → AllWait p objects (map (without_object x) loops)
all-dropped p objects x [] all = tt
all-dropped p objects x (l ∷ loops) all = (all-filtered (λ (q : Posted). Waits p objects q.item) (λ q. not (is_for x q.item)) l.items all.0, all-dropped p objects x loops all.1)

-- what waits in one loop
pub items-wait : (p : Loaded) (objects : List Object) (loops : List Loop) (home : ℕ) → AllWait p objects loops → AllByRecursion (λ (q : Posted). Waits p objects q.item) (items_at loops home)
items-wait p objects [] home all = tt
items-wait p objects (l ∷ loops) zero all = all.0
items-wait p objects (l ∷ loops) (suc home) all = items-wait p objects loops home all.1

-- the first item that was posted before the one of a number waits
pub first-waits : (p : Loaded) (objects : List Object) (loops : List Loop) (home number : ℕ) (q : Posted) → AllWait p objects loops → find (is_before number) (items_at loops home) ≡ Some q → Waits p objects q.item
first-waits p objects loops home number q all found =
    found-among (λ (r : Posted). Waits p objects r.item) (is_before number) (items_at loops home) q (items-wait p objects loops home all) found
