-- Turns that wait, in a row or in a heap.
use Rattle.std.{proofs.Common.{◌≡◌, ℕ, ◌+◌, ◌^◌, ◌<◌, ◌≤◌, false, List, [], ◌∷◌, ◌++◌, All, length, get_or, Option, IsSome, IfSome, MatchOption, None, Some, refl, ap, sym, ◌∙◌, subst, arith}, specs.BinaryHeap.{IsHeap, IsUpperBound, heap_items}, specs.Option.{option_to_list}, specs.List.{Contains}, specs.List.Sorted.{IsPermutation}, specs.Ordering.{is_lt, nat_cmp, ordering_then}, specs.declared.cmp.Ordering.{Ordering}, specs.declared.cmp.Ordering.TheVariants.{Less, Equal, Greater}, proofs.lemmas.Bool.{false≢true}, proofs.lemmas.List.{append_assoc, length-append}, proofs.lemmas.List.Elements.{All-append, All-cons, All-contains, All-from_recursion, All-nil, All-weaker}, proofs.lemmas.List.Sorted.{Contains-permutation, length_permutation, IsPermutation-append_comm, IsPermutation-append_left}, proofs.lemmas.Map.Keys.{ge_from_not_lt}}
use Rattle.binding_graph.{specs.declared.turns.Turns.{Turns}, specs.code.Turns.{AtLeast, AtMost, InTurn, IsNext, Turn, by_turn, number_of, turns_in}}

abbrev pub NoneBelow : ℕ → List Turn → Type 0
NoneBelow n ts = All (λ (s : Turn). n ≤ number_of s) ts

-- the turn that is taken has the lowest number
first-decides : (r o : Ordering) → is_lt (ordering_then r o) ≡ false → is_lt r ≡ false
first-decides Less o h = h
first-decides Equal o h = refl
first-decides Greater o h = refl

pub lowest-taken : (t : Turn) (ts : List Turn) → IsUpperBound by_turn t ts → All (λ (s : Turn). number_of t ≤ number_of s) ts
lowest-taken t ts bound = All-weaker (λ (s : Turn). is_lt (by_turn t s) ≡ false) (λ (s : Turn). number_of t ≤ number_of s)
    (λ s h. ge_from_not_lt (number_of s) (number_of t) (first-decides (nat_cmp (number_of s) (number_of t)) _ h))
    ts (All-from_recursion (λ (s : Turn). is_lt (by_turn t s) ≡ false) ts bound)

pub few-turns : (x : Turns) → length (turns_in x) < 2 ^ 65
few-turns x =
    let both : length (turns_in x) ≡ length (heap_items x.others) + length x.row.items = length-append (heap_items x.others) x.row.items in
    omega (arith, both, x.others.data.ok.0, x.others.data.ok.1, x.others.data.small, x.row.ok.0, x.row.small.0, x.row.small.1)

-- ---- one more
at-least-push : (n : ℕ) (ts : List Turn) (t : Turn) → AtLeast n ts → n ≤ number_of t → AtLeast n (ts ++ t ∷ [])
at-least-push n [] t h over = (over, tt)
at-least-push n (s ∷ ts) t h over = (h.0, at-least-push n ts t h.1 over)

pub in-turn-push : (ts : List Turn) (t : Turn) (last : ℕ) → InTurn ts → AtMost last ts → last ≤ number_of t → InTurn (ts ++ t ∷ [])
in-turn-push [] t last h most over = (tt, tt)
in-turn-push (s ∷ ts) t last h most over =
    let low : number_of s ≤ last = most.0 in
    let under : number_of s ≤ number_of t = omega (arith, low, over) in
    (at-least-push (number_of s) ts t h.0 under, in-turn-push ts t last h.1 most.1 over)

pub at-most-push : (ts : List Turn) (t : Turn) (last : ℕ) → AtMost last ts → last ≤ number_of t → AtMost (number_of t) (ts ++ t ∷ [])
at-most-push [] t last most over = (omega arith, tt)
at-most-push (s ∷ ts) t last most over =
    let low : number_of s ≤ last = most.0 in
    let under : number_of s ≤ number_of t = omega (arith, low, over) in
    (under, at-most-push ts t last most.1 over)

pub put-in-row : (heap row : List Turn) (t : Turn) → IsPermutation (t ∷ heap ++ row) (heap ++ (row ++ t ∷ []))
put-in-row heap row t = subst (IsPermutation (t ∷ heap ++ row)) (append_assoc heap row (t ∷ [])) (IsPermutation-append_comm (t ∷ []) (heap ++ row))

-- ---- the next one
none-below : (n : ℕ) (ts : List Turn) → AtLeast n ts → NoneBelow n ts
none-below n [] h = All-nil (λ (s : Turn). n ≤ number_of s)
none-below n (t ∷ ts) h = All-cons (λ (s : Turn). n ≤ number_of s) t ts h.0 (none-below n ts h.1)

first-there : (t : Turn) (ts : List Turn) → Contains (t ∷ ts) t
first-there t ts = (0, omega arith, refl)

pub top-there : (heap : List Turn) (other : Turn) → 0 < length heap → other ≡ get_or heap 0 other → Contains heap other
top-there [] other some is = absurd (omega (arith, some))
top-there (t ∷ ts) other some is = subst (Contains (t ∷ ts)) (sym is) (first-there t ts)

pub front-below : (row : List Turn) (first : Turn) → InTurn row → first ≡ get_or row 0 first → NoneBelow (number_of first) row
front-below [] first h is = All-nil (λ (s : Turn). number_of first ≤ number_of s)
front-below (t ∷ ts) first h is = subst (λ (x : Turn). NoneBelow (number_of x) (t ∷ ts)) (sym is) (All-cons (λ (s : Turn). number_of t ≤ number_of s) t ts (omega arith) (none-below (number_of t) ts h.0))

-- from the heap
pub heap-next : (heap after row : List Turn) (t first other : Turn) → IsPermutation heap (t ∷ after) → IsUpperBound by_turn t after → Contains heap other → number_of other < number_of first → NoneBelow (number_of first) row → IsNext (heap ++ row) (after ++ row) t
heap-next heap after row t first other moved bound there less rest =
    let low : NoneBelow (number_of t) after = lowest-taken t after bound in
    let here : number_of t ≤ number_of other = All-contains (λ (s : Turn). number_of t ≤ number_of s) (t ∷ after) other (All-cons (λ (s : Turn). number_of t ≤ number_of s) t after (omega arith) low) (Contains-permutation heap (t ∷ after) other moved there) in
    record {
      moved = IsPermutation-append_left row heap (t ∷ after) moved;
      lowest = All-append (λ (s : Turn). number_of t ≤ number_of s) after row low
          (All-weaker (λ (s : Turn). number_of first ≤ number_of s) (λ (s : Turn). number_of t ≤ number_of s) (λ s over. omega (arith, over, less, here)) row rest);
    }

-- from the row
row-taken : (heap after : List Turn) (t : Turn) → IsPermutation (heap ++ t ∷ after) (t ∷ heap ++ after)
row-taken heap after t = subst (λ (xs : List Turn). IsPermutation xs (t ∷ heap ++ after)) (append_assoc heap (t ∷ []) after) (IsPermutation-append_left after (heap ++ t ∷ []) (t ∷ heap) (IsPermutation-append_comm heap (t ∷ [])))

pub row-next : (heap row after : List Turn) (t : Turn) → row ≡ t ∷ after → InTurn row → NoneBelow (number_of t) heap → IsNext (heap ++ row) (heap ++ after) t
row-next heap row after t is h low = record {
  moved = subst (λ (xs : List Turn). IsPermutation (heap ++ xs) (t ∷ heap ++ after)) (sym is) (row-taken heap after t);
  lowest = All-append (λ (s : Turn). number_of t ≤ number_of s) heap after low (none-below (number_of t) after (subst InTurn is h).0);
}

-- where the heap's top isn't below the row's front
pub heap-over : (heap : List Turn) (first other : Turn) → IsUpperBound by_turn other heap → number_of first ≤ number_of other → NoneBelow (number_of first) heap
heap-over heap first other bound under = All-weaker (λ (s : Turn). number_of other ≤ number_of s) (λ (s : Turn). number_of first ≤ number_of s) (λ s over. omega (arith, over, under)) heap (lowest-taken other heap bound)

pub heap-none : (heap : List Turn) (n : ℕ) → (0 < length heap → ⊥) → NoneBelow n heap
heap-none [] n none = All-nil (λ (s : Turn). n ≤ number_of s)
heap-none (t ∷ ts) n none = absurd (none (omega arith))

-- ---- what is taken
pub taken-from-heap : (result : Option Turn) (heap after row : List Turn) (first other : Turn) → IsSome result → IfSome result (λ t. IsPermutation heap (t ∷ after)) → IfSome result (λ t. IsHeap by_turn heap → IsUpperBound by_turn t after) → IsHeap by_turn heap → Contains heap other → number_of other < number_of first → NoneBelow (number_of first) row → MatchOption result (length (heap ++ row) ≡ 0) (IsNext (heap ++ row) (after ++ row))
taken-from-heap None heap after row first other some moved bound h there less rest = absurd (false≢true some)
taken-from-heap (Some t) heap after row first other some moved bound h there less rest = heap-next heap after row t first other moved (bound h) there less rest

pub taken-from-row : (result : Option Turn) (heap row after : List Turn) (first : Turn) → IsSome result → row ≡ option_to_list result ++ after → first ≡ get_or row 0 first → InTurn row → NoneBelow (number_of first) heap → MatchOption result (length (heap ++ row) ≡ 0) (IsNext (heap ++ row) (heap ++ after))
taken-from-row None heap row after first some is front h low = absurd (false≢true some)
taken-from-row (Some t) heap row after first some is front h low =
    let same : first ≡ t = front ∙ ap (λ (xs : List Turn). get_or xs 0 first) is in
    row-next heap row after t is h (subst (λ (x : Turn). NoneBelow (number_of x) heap) same low)

pub taken-fewer : (old new : List Turn) (t : Turn) → IsPermutation old (t ∷ new) → length new < length old
taken-fewer old new t moved = let same : length (t ∷ new) ≡ length old = length_permutation old (t ∷ new) moved in omega (arith, same)
