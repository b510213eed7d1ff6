-- Numbered properties, once they are sorted by their numbers.
use Rattle.std.proofs.Common.{◌≡◌, ℕ, suc, ◌+◌, ◌<◌, ◌≤◌, ◌⊎◌, Bool, true, cond, List, [], ◌∷◌, ◌++◌, length, get_or, take, inl, inr, Option, Some, refl, ap, sym, ◌∙◌, subst, arith}
use Rattle.std.specs.Prelude.{◌↔◌}
use Rattle.std.specs.List.{All, sum_by}
use Rattle.std.specs.List.Sorted.{IsNonDecreasingBy, IsPermutation}
use Rattle.std.proofs.lemmas.List.{take_more}
use Rattle.std.proofs.lemmas.List.Elements.{All-head, All-tail}
use Rattle.std.proofs.lemmas.List.Recursion.{is_sum_by}
use Rattle.std.proofs.lemmas.List.Sorted.{All-permutation, sum_by-IsPermutation}
use Rattle.binding_graph.specs.declared.place.Place.{Place}
use Rattle.binding_graph.specs.declared.numbering.Numbered.{Numbered}
use Rattle.binding_graph.specs.Places.{In, Distinct, same_place}
use Rattle.binding_graph.specs.code.Numbering.{places_of, Above, IsNumbering}
use Rattle.binding_graph.proofs.Numbers.{IsOneToOne}
use Rattle.binding_graph.proofs.Places.{decide_in, decide_place, different, same_place-refl}

-- how often a property stands there
abbrev here : Place → Numbered → ℕ
here p f = cond (same_place f.place p) 1 0

abbrev times : Place → List Numbered → ℕ
times p [] = 0
times p (f ∷ fs) = here p f + times p fs

here-same : (p : Place) (f : Numbered) → f.place ≡ p → here p f ≡ 1
here-same p f e = ap (λ (b : Bool). cond b 1 0) (subst (λ (q : Place). same_place f.place q ≡ true) e (same_place-refl f.place))

times-moved : (p : Place) (fs gs : List Numbered) → IsPermutation fs gs → times p gs ≡ times p fs
times-moved p fs gs moved = sums gs ∙ sum_by-IsPermutation (here p) fs gs moved ∙ sym (sums fs)
  where
    sums : (xs : List Numbered) → times p xs ≡ sum_by (here p) xs
    sums xs = is_sum_by (times p) (here p) refl (λ x ys. refl) xs

times-none : (p : Place) (fs : List Numbered) → (In p (places_of fs) → ⊥) → times p fs ≡ 0
times-none p [] out = refl
times-none p (f ∷ fs) out =
    let away : here p f ≡ 0 = ap (λ (b : Bool). cond b 1 0) (different f.place p (λ e. out (inl e))) in
    let rest : times p fs ≡ 0 = times-none p fs (λ i. out (inr i)) in
    omega (arith, away, rest)

in-times : (p : Place) (fs : List Numbered) → 1 ≤ times p fs → In p (places_of fs)
in-times p fs least = elim (decide_in p (places_of fs)) [
  | inl i ↦ i
  | inr out ↦ let none : times p fs ≡ 0 = times-none p fs out in absurd (omega (arith, none, least))
]

times-in : (p : Place) (fs : List Numbered) → In p (places_of fs) → 1 ≤ times p fs
times-in p [] i = absurd i
times-in p (f ∷ fs) (inl e) = let one : here p f ≡ 1 = here-same p f e in omega (arith, one)
times-in p (f ∷ fs) (inr i) = let more : 1 ≤ times p fs = times-in p fs i in omega (arith, more)

times-once : (p : Place) (fs : List Numbered) → Distinct (places_of fs) → times p fs ≤ 1
times-once p [] d = omega arith
times-once p (f ∷ fs) d = elim (decide_place f.place p) [
  | inl e ↦
      let one : here p f ≡ 1 = here-same p f e in
      let none : times p fs ≡ 0 = times-none p fs (λ i. d.0 (subst (λ (q : Place). In q (places_of fs)) (sym e) i)) in
      omega (arith, one, none)
  | inr g ↦
      let away : here p f ≡ 0 = ap (λ (b : Bool). cond b 1 0) g in
      let rest : times p fs ≤ 1 = times-once p fs d.1 in
      omega (arith, away, rest)
]

below-or-same : (n m : ℕ) → n ≤ m → (n < m) ⊎ (n ≡ m)
below-or-same n m le = grind (arith, le)

module _ (N : Place → Option ℕ) (one : IsOneToOne N) where
  abbrev IsBy : Numbered → Type 0
  IsBy f = N f.place ≡ Some f.number

  above-sorted : (p : Place) (n : ℕ) (gs : List Numbered) → N p ≡ Some n → All IsBy gs → ((i : ℕ) (d : Numbered) → i < length gs → n ≤ (get_or gs i d).number) → times p gs ≡ 0 → Above n gs
  above-sorted p n [] is by low none = tt
  above-sorted p n (g ∷ gs) is by low none = (
    elim (below-or-same n g.number (low 0 g (omega arith))) [
      | inl less ↦ less
      | inr e ↦
          let same : g.place ≡ p = one g.place p n (All-head IsBy g gs by ∙ ap Some (sym e)) is in
          let once : here p g ≡ 1 = here-same p g same in
          absurd (omega (arith, once, none))
    ],
    above-sorted p n gs is (All-tail IsBy g gs by) (λ i d below. low (suc i) d (omega (arith, below))) (omega (arith, none)),
  )

  rises-by : (fs : List Numbered) → All IsBy fs → IsNonDecreasingBy (λ (f : Numbered). f.number) fs → ((p : Place) → times p fs ≤ 1) → IsNumbering N fs
  rises-by [] by sorted most = (tt, tt)
  rises-by (f ∷ fs) by sorted most =
      let first : N f.place ≡ Some f.number = All-head IsBy f fs by in
      let tail : All IsBy fs = All-tail IsBy f fs by in
      let rest = rises-by fs tail (λ i j d le below. sorted (suc i) (suc j) d (omega (arith, le)) (omega (arith, below))) (λ p. let both : here p f + times p fs ≤ 1 = most p in omega (arith, both)) in
      let own : here f.place f ≡ 1 = here-same f.place f refl in
      let both : here f.place f + times f.place fs ≤ 1 = most f.place in
      let none : times f.place fs ≡ 0 = omega (arith, own, both) in
      ((above-sorted f.place f.number fs first tail (λ i d below. sorted 0 (suc i) d (omega arith) (omega (arith, below))) none, rest.0), (first, rest.1))

  -- different ones in the order of their numbers
  pub sorted-numbering : (ps : List Place) (found after : List Numbered) → places_of found ≡ ps → Distinct ps → All IsBy found → IsPermutation found after → IsNonDecreasingBy (λ (f : Numbered). f.number) after → IsNumbering N after
  sorted-numbering ps found after are distinct by moved sorted =
      rises-by after (All-permutation IsBy found after moved by) sorted
      (λ p. subst (λ (n : ℕ). n ≤ 1) (sym (times-moved p found after moved)) (times-once p found (subst Distinct (sym are) distinct)))

pub sorted-same : (ps : List Place) (found after : List Numbered) → places_of found ≡ ps → IsPermutation found after → (q : Place) → In q (places_of after) ↔ In q ps
sorted-same ps found after are moved q = (
  (λ i. subst (In q) are (in-times q found (subst (λ (n : ℕ). 1 ≤ n) (times-moved q found after moved) (times-in q after i)))),
  (λ i. in-times q after (subst (λ (n : ℕ). 1 ≤ n) (sym (times-moved q found after moved)) (times-in q found (subst (In q) (sym are) i)))),
)

pub places-push : (fs : List Numbered) (f : Numbered) → places_of (fs ++ f ∷ []) ≡ places_of fs ++ f.place ∷ []
places-push [] f = refl
places-push (g ∷ fs) f = ap (λ (ps : List Place). g.place ∷ ps) (places-push fs f)

pub next-numbered : (fs : List Numbered) (i : ℕ) (f : Numbered) → i < length fs → f ≡ get_or fs i f → places_of (take (i + 1) fs) ≡ places_of (take i fs) ++ f.place ∷ []
next-numbered fs i f below is = ap (λ (gs : List Numbered). places_of gs) (take_more fs i f below ∙ ap (λ (g : Numbered). take i fs ++ g ∷ []) (sym is)) ∙ places-push (take i fs) f
