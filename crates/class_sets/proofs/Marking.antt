-- Marks, and what is marked one class after another.
use Rattle.std.proofs.Common.{◌≡◌, ◌↔◌, ◌⊎◌, inl, inr, ℕ, ◌+◌, ◌<◌, ◌≤◌, Bool, true, false, List, [], length, get_or, take, replicate, sym, ◌∙◌, subst, arith}
use Rattle.std.specs.List.{Contains}
use Rattle.std.proofs.lemmas.Bool.{cases_lt}
use Rattle.std.proofs.lemmas.List.{take_all, get_or_past, get_or-replicate, length-replicate}
use Rattle.class_sets.specs.Marks.{IsMarked, Marks}
use Rattle.class_sets.proofs.Firsts.{first_more}

pub not_marked : (j : ℕ) → ¬ IsMarked [] j
not_marked j h = let bad : false ≡ true = h in cc

pub unmarked : (count d : ℕ) → ¬ IsMarked (replicate count false) d
unmarked count d h =
    elim (cases_lt d count) [
      | inl l ↦ let off = get_or-replicate count d false false l in let bad : false ≡ true = sym off ∙ h in cc
      | inr m ↦ let off = get_or_past (replicate count false) d false (omega (arith, m, length-replicate {A = Bool} count false)) in let bad : false ≡ true = sym off ∙ h in cc
    ]

pub marked_inside : (marks : List Bool) (j : ℕ) → IsMarked marks j → j < length marks
marked_inside marks j h =
    elim (cases_lt j (length marks)) [
      | inl l ↦ l
      | inr m ↦ let past : get_or marks j false ≡ false = get_or_past marks j false m in let bad : false ≡ true = sym past ∙ h in cc
    ]

pub marks_then : (P Q R : ℕ → Type 0) (first then last : List Bool) → Marks P first then → Marks Q then last → ((j : ℕ) → R j ↔ (P j ⊎ Q j)) → Marks R first last
marks_then P Q R first then last p q r = record {
  count = q.count ∙ p.count;
  marks = λ j. (
    λ h.
        elim ((q.marks j).0 h) [
          | inl old ↦ elim ((p.marks j).0 old) [ inl before ↦ inl before | inr new ↦ inr ((r j).1 (inl new)) ]
          | inr new ↦ inr ((r j).1 (inr new))
        ],
    λ h.
        elim h [
          | inl old ↦ (q.marks j).1 (inl ((p.marks j).1 (inl old)))
          | inr new ↦ elim ((r j).0 new) [ inl left ↦ (q.marks j).1 (inl ((p.marks j).1 (inr left))) | inr right ↦ (q.marks j).1 (inr right) ]
        ],
  );
}

-- one class after another
pub add_more : (numbers : List ℕ) (i : ℕ) (first then last : List Bool) → i < length numbers → Marks (Contains (take i numbers)) first then → Marks (λ j. j ≡ get_or numbers i 0) then last → Marks (Contains (take (i + 1) numbers)) first last
add_more numbers i first then last inside p q =
    marks_then (Contains (take i numbers)) (λ j. j ≡ get_or numbers i 0) (Contains (take (i + 1) numbers)) first then last p q (first_more numbers i 0 inside)

pub add_all : (numbers : List ℕ) (i : ℕ) (before after : List Bool) → length numbers ≤ i → Marks (Contains (take i numbers)) before after → Marks (Contains numbers) before after
add_all numbers i before after past p = subst (λ (l : List ℕ). Marks (Contains l) before after) (take_all i numbers past) p
