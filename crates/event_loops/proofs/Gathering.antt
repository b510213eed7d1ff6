-- One ring after the other gives up what goes, and one item after the other.
use Rattle.std.proofs.Common.{◌≡◌, ℕ, zero, suc, ◌+◌, ◌<◌, ◌≤◌, Bool, not, List, [], ◌∷◌, ◌++◌, map, take, drop, length, refl, arith, ap, sym, ◌∙◌}
use Rattle.std.proofs.lemmas.List.{length-append, append_assoc, take-append-drop}
use Rattle.std.proofs.lemmas.List.Elements.{filter-append}
use Rattle.event_loops.specs.declared.item.Posted.{Posted}
use Rattle.event_loops.specs.Queues.{Loop, items_at, all_items, change}
use Rattle.event_loops.specs.code.Rings.{goes, those_going, those_staying}

-- ---- loop by loop

-- the loops with all changed from a place on
abbrev pub map_from : ℕ → (Loop → Loop) → List Loop → List Loop
map_from k f [] = []
map_from zero f (l ∷ loops) = f l ∷ map f loops
map_from (suc k) f (l ∷ loops) = l ∷ map_from k f loops

pub map_from-start : (f : Loop → Loop) (loops : List Loop) → map_from 0 f loops ≡ map f loops
map_from-start f [] = refl
map_from-start f (l ∷ loops) = refl

map_from-next : (k : ℕ) (f : Loop → Loop) (loops : List Loop) → map_from (suc k) f (change k f loops) ≡ map_from k f loops
map_from-next k f [] = refl
map_from-next zero f (l ∷ loops) = ap (λ ls. f l ∷ ls) (map_from-start f loops)
map_from-next (suc k) f (l ∷ loops) = ap (λ ls. l ∷ ls) (map_from-next k f loops)

pub map_from-step : (k : ℕ) (f : Loop → Loop) (loops : List Loop) → map_from (k + 1) f (change k f loops) ≡ map_from k f loops
map_from-step k f loops =
    let on : k + 1 ≡ suc k = omega arith in ap (λ n. map_from n f (change k f loops)) on ∙ map_from-next k f loops

pub map_from-end : (k : ℕ) (f : Loop → Loop) (loops : List Loop) → length loops ≤ k → map_from k f loops ≡ loops
map_from-end k f [] past = refl
map_from-end zero f (l ∷ loops) past = absurd (omega (arith, past))
map_from-end (suc k) f (l ∷ loops) past = let less : length loops ≤ k = omega (arith, past) in ap (λ ls. l ∷ ls) (map_from-end k f loops less)

pub length-change : (k : ℕ) (f : Loop → Loop) (loops : List Loop) → length (change k f loops) ≡ length loops
length-change k f [] = refl
length-change zero f (l ∷ loops) = refl
length-change (suc k) f (l ∷ loops) = ap suc (length-change k f loops)

drop-changed : (k : ℕ) (f : Loop → Loop) (loops : List Loop) → drop (suc k) (change k f loops) ≡ drop (suc k) loops
drop-changed k f [] = refl
drop-changed zero f (l ∷ loops) = refl
drop-changed (suc k) f (l ∷ loops) = drop-changed k f loops

items-next : (k : ℕ) (loops : List Loop) → all_items (drop k loops) ≡ items_at loops k ++ all_items (drop (suc k) loops)
items-next zero [] = refl
items-next (suc k) [] = refl
items-next zero (l ∷ loops) = refl
items-next (suc k) (l ∷ loops) = items-next k loops

module _ (going : ℕ → Bool) where
  -- what goes from the place on
  abbrev pub going_from : ℕ → List Loop → List Posted
  going_from k loops = those_going going (all_items (drop k loops))

  pub going-step : (k : ℕ) (loops : List Loop) → going_from k loops ≡ those_going going (items_at loops k) ++ going_from (k + 1) loops
  going-step k loops =
      let on : suc k ≡ k + 1 = omega arith in
      ap (those_going going) (items-next k loops)
      ∙ filter-append (goes going) (items_at loops k) (all_items (drop (suc k) loops))
      ∙ ap (λ n. those_going going (items_at loops k) ++ going_from n loops) on

  pub going-changed : (k : ℕ) (f : Loop → Loop) (loops : List Loop) → going_from (k + 1) (change k f loops) ≡ going_from (k + 1) loops
  going-changed k f loops =
      let on : k + 1 ≡ suc k = omega arith in
      ap (λ n. going_from n (change k f loops)) on
      ∙ ap (λ ls. those_going going (all_items ls)) (drop-changed k f loops)
      ∙ ap (λ n. going_from n loops) (sym on)

  drop-past : (k : ℕ) (loops : List Loop) → length loops ≤ k → drop k loops ≡ []
  drop-past zero [] past = refl
  drop-past (suc k) [] past = refl
  drop-past zero (l ∷ loops) past = absurd (omega (arith, past))
  drop-past (suc k) (l ∷ loops) past = let less : length loops ≤ k = omega (arith, past) in drop-past k loops less

  pub going-end : (k : ℕ) (loops : List Loop) → length loops ≤ k → going_from k loops ≡ []
  going-end k loops past = ap (λ ls. those_going going (all_items ls)) (drop-past k loops past)

-- ---- item by item

first-of-rest : (i : ℕ) (xs more : List Posted) → i < length xs → take (suc i) xs ≡ take i xs ++ take 1 (drop i xs ++ more)
first-of-rest i [] more below = absurd (omega (arith, below))
first-of-rest zero (x ∷ xs) more below = refl
first-of-rest (suc i) (x ∷ xs) more below = let less : i < length xs = omega (arith, below) in ap (λ ys. x ∷ ys) (first-of-rest i xs more less)

rest-of-rest : (i : ℕ) (xs more : List Posted) → i < length xs → drop 1 (drop i xs ++ more) ≡ drop (suc i) xs ++ more
rest-of-rest i [] more below = absurd (omega (arith, below))
rest-of-rest zero (x ∷ xs) more below = refl
rest-of-rest (suc i) (x ∷ xs) more below = let less : i < length xs = omega (arith, below) in rest-of-rest i xs more less

module _ (going : ℕ → Bool) (xs : List Posted) (i : ℕ) where
  -- the first i items were looked at: those that stay come after the others
  abbrev pub turned : List Posted
  turned = drop i xs ++ those_staying going (take i xs)

  on : i + 1 ≡ suc i
  on = omega arith

  next : i < length xs → take (i + 1) xs ≡ take i xs ++ take 1 turned
  next below = ap (λ n. take n xs) on ∙ first-of-rest i xs (those_staying going (take i xs)) below

  pub going-next : i < length xs → those_going going (take (i + 1) xs) ≡ those_going going (take i xs) ++ those_going going (take 1 turned)
  going-next below = ap (those_going going) (next below) ∙ filter-append (goes going) (take i xs) (take 1 turned)

  pub turned-next : i < length xs → drop 1 turned ++ those_staying going (take 1 turned) ≡ drop (i + 1) xs ++ those_staying going (take (i + 1) xs)
  turned-next below =
      ap (λ ys. ys ++ those_staying going (take 1 turned)) (rest-of-rest i xs (those_staying going (take i xs)) below ∙ ap (λ n. drop n xs ++ those_staying going (take i xs)) (sym on))
      ∙ append_assoc (drop (i + 1) xs) (those_staying going (take i xs)) (those_staying going (take 1 turned))
      ∙ ap (λ ys. drop (i + 1) xs ++ ys) (sym (ap (those_staying going) (next below) ∙ filter-append (λ p. not (goes going p)) (take i xs) (take 1 turned)))

  -- no more go than all that do
  pub going-within : length (those_going going (take i xs)) ≤ length (those_going going xs)
  going-within =
      let parts : those_going going (take i xs) ++ those_going going (drop i xs) ≡ those_going going xs =
      sym (filter-append (goes going) (take i xs) (drop i xs)) ∙ ap (those_going going) (take-append-drop i xs) in
      omega (arith, ap length parts, length-append (those_going going (take i xs)) (those_going going (drop i xs)))
