-- Numbers that rise along a list of places.
use Rattle.std.proofs.Common.{◌≡◌, ⊎_elim, ℕ, zero, suc, ◌<◌, ◌≤◌, Bool, true, false, cond, List, [], ◌∷◌, length, Option, None, Some, refl, arith, ◌&&◌, ap, sym, ◌∙◌, eqb, nat_lt, get_or, take, drop, min}
use Rattle.std.specs.List.{Contains, find, cons_option}
use Rattle.std.specs.List.Sorted.{IsNonDecreasingBy}
use Rattle.std.proofs.lemmas.Bool.{cases_lt, le-ltb, eqb-true}
use Rattle.std.proofs.lemmas.List.{get_or_default}
use Rattle.connections.specs.declared.connection.Connection.{Connection}
use Rattle.connections.specs.declared.cell.Cell.{Cell}
use Rattle.connections.specs.declared.place.CellPlace.{CellPlace}
use Rattle.slab.specs.Slab.{Slab, get}
use Rattle.connections.specs.code.CellPlaces.{live, connection_in, Rising, SplitsAt}

pub Rising-at : (low last : ℕ) (places : List CellPlace) (k : ℕ) (d : CellPlace) → Rising low places last → k < length places → low < (get_or places k d).number
Rising-at low last [] k d r h = omega arith
Rising-at low last (p ∷ places) zero d r h = r.0
Rising-at low last (p ∷ places) (suc k) d r h = omega (arith, r.0, Rising-at p.number last places k d r.1 (omega arith))

pub Rising-order : (low last : ℕ) (places : List CellPlace) (i j : ℕ) (d : CellPlace) → Rising low places last → i < j → j < length places → (get_or places i d).number < (get_or places j d).number
Rising-order low last [] i j d r h k = omega arith
Rising-order low last (p ∷ places) zero zero d r h k = omega arith
Rising-order low last (p ∷ places) zero (suc j) d r h k = Rising-at p.number last places j d r.1 (omega arith)
Rising-order low last (p ∷ places) (suc i) zero d r h k = omega arith
Rising-order low last (p ∷ places) (suc i) (suc j) d r h k = Rising-order p.number last places i j d r.1 (omega arith) (omega arith)

pub Rising-sorted : (last : ℕ) (places : List CellPlace) → Rising 0 places last → IsNonDecreasingBy (λ p. p.number) places
Rising-sorted last places r = λ i j d h k. ⊎_elim
    (λ (less : i < j). omega (arith, Rising-order 0 last places i j d r less k))
    (λ (same : j ≤ i). let e : i ≡ j = omega arith in rw e (omega arith))
    (cases_lt i j)

-- an element is among the one at its place
pub found_at : (places : List CellPlace) (i : ℕ) (p : CellPlace) → i < length places → get_or places i p ≡ p → Contains (take 1 (drop i places)) p
found_at [] i p h e = absurd (omega (arith, h))
found_at (q ∷ places) zero p h e = (0, omega arith, e)
found_at (q ∷ places) (suc i) p h e = found_at places i p (omega arith) e

-- the place of a number is the first whose number is at least that
pub found_first : (last : ℕ) (places : List CellPlace) (number i : ℕ) (p : CellPlace) → Rising 0 places last → SplitsAt places number i → Contains places p → p.number ≡ number → Contains (take 1 (drop i places)) p
found_first last places number i p r s (k, within, at) same =
    let here : (get_or places k p).number ≡ number = ap (λ (q : CellPlace). q.number) at ∙ same in
    ⊎_elim
    (λ (less : k < i). absurd (omega (arith, here, s.below k p less)))
    (λ (more : i ≤ k). ⊎_elim
    (λ (less : i < k). absurd (omega (arith, here, s.above i p (omega arith) (omega (arith, less, within)), Rising-order 0 last places i k p r less within)))
    (λ (other : k ≤ i). let e : i ≡ k = omega arith in rw e (found_at places k p within at))
    (cases_lt i k))
    (cases_lt k i)

find-cons : (above number : ℕ) (x : Option Cell) (cs : List Connection) → number < above → find (λ c. nat_lt above c.number) (cons_option (connection_in number x) cs) ≡ find (λ c. nat_lt above c.number) cs
find-cons above number None cs h = refl
find-cons above number (Some cell) cs h = by_tests cell.live (eqb cell.connection.number number) refl
  where
    by_tests : (a b : Bool) → eqb cell.connection.number number ≡ b → find (λ c. nat_lt above c.number) (cons_option (cond (a && b) (Some cell.connection) None) cs) ≡ find (λ c. nat_lt above c.number) cs
    by_tests true true e = ap (λ b. cond b (Some cell.connection) (find (λ c. nat_lt above c.number) cs)) (le-ltb above cell.connection.number (omega (arith, h, eqb-true _ _ e)))
    by_tests true false e = refl
    by_tests false b e = refl

-- places of lower numbers show nothing that is numbered above
pub find-skip : (cells : Slab Cell) (places : List CellPlace) (i above : ℕ) → ((k : ℕ) (d : CellPlace) → k < i → (get_or places k d).number < above) → find (λ c. nat_lt above c.number) (live cells (drop i places)) ≡ find (λ c. nat_lt above c.number) (live cells places)
find-skip cells [] zero above h = refl
find-skip cells [] (suc i) above h = refl
find-skip cells (p ∷ places) zero above h = refl
find-skip cells (p ∷ places) (suc i) above h =
    find-skip cells places i above (λ k d less. h (suc k) d (omega (arith, less)))
    ∙ sym (find-cons above p.number (get cells p.key) (live cells places) (h zero p (omega arith)))

pub take_one : (places : List CellPlace) (n : ℕ) → n ≡ min (length places) 1 → take n places ≡ take 1 places
take_one [] zero e = refl
take_one [] (suc n) e = refl
take_one (p ∷ places) n e = let one : n ≡ 1 = omega arith in rw one refl

-- the numbers before a place are below its number, and those from it on aren't
pub splits_at : (last : ℕ) (places : List CellPlace) (number i : ℕ) (e : CellPlace) → Rising 0 places last → i < length places → (get_or places i e).number ≡ number → SplitsAt places number i
splits_at last places number i e r h same =
    let here : (d : CellPlace) → (get_or places i d).number ≡ number = λ d. ap (λ (q : CellPlace). q.number) (get_or_default places i d e h) ∙ same in
    record {
      below = λ k d w. omega (arith, here d, Rising-order 0 last places k i d r w h);
      above = λ k d w g. omega (arith, here d, Rising-sorted last places r i k d w g);
    }

-- no number is below the first
pub splits_first : (last : ℕ) (first : CellPlace) (rest : List CellPlace) (number : ℕ) → Rising 0 (first ∷ rest) last → number ≤ first.number → SplitsAt (first ∷ rest) number 0
splits_first last first rest number r h =
    record {
      below = λ k d less. absurd (omega (arith, less));
      above = λ k d w within. omega (arith, h, Rising-sorted last (first ∷ rest) r 0 k d w within);
    }
