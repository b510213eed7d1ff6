-- The line at the front of a text.
use Rattle.std.proofs.Common.{◌≡◌, ◌≢◌, ℕ, zero, suc, ◌<◌, ◌+◌, ◌-◌, false, List, [], ◌∷◌, ◌++◌, length, take, drop, get_or, refl, sym, ◌∙◌, ap, inl, inr, ◌⊎◌, Some, None, arith, ◌==◌}
use Rattle.std.proofs.lemmas.Bool.{eq-eqb, eqb-true}
use Rattle.std.proofs.lemmas.List.{take_all, drop_all, length-drop}
use Rattle.std.specs.List.{AllByRecursion}
use Rattle.memchr.specs.Find.{Passes, is_byte, IsFirstByte}
use Rattle.texts.specs.Lines.{IsFirstLine, AreFirstLines}

-- the bytes before the first newline, the newline, and what follows it
split_at : (text : List ℕ) (at : ℕ) → at < length text → get_or text at 0 ≡ 10 → ((k : ℕ) → k < at → get_or text k 0 ≢ 10) → AllByRecursion (λ b. b ≢ 10) (take at text) × (text ≡ take at text ++ 10 ∷ drop (suc at) text)
split_at [] at within here before = absurd (omega arith)
split_at (b ∷ bs) zero within here before = (tt, cc)
split_at (b ∷ bs) (suc n) within here before =
    let r = split_at bs n (omega arith) here (λ k h. before (suc k) (omega arith)) in
    ((before 0 (omega arith), r.0), ap (λ xs. b ∷ xs) r.1)

all_of_each : (text : List ℕ) → ((k : ℕ) → k < length text → get_or text k 0 ≢ 10) → AllByRecursion (λ b. b ≢ 10) text
all_of_each [] each = tt
all_of_each (b ∷ bs) each = (each 0 (omega arith), all_of_each bs (λ k h. each (suc k) (omega arith)))

-- a byte that the search for newlines passes is none
not_newline : (text : List ℕ) (k : ℕ) → ¬ Passes (is_byte 10) text k → get_or text k 0 ≢ 10
not_newline text k passed same = passed (eq-eqb (get_or text k 0) 10 same)

-- the slice from `n` to the end
from_there : (text : List ℕ) (n : ℕ) → take (length text - n) (drop n text) ≡ drop n text
from_there text n = take_all (length text - n) (drop n text) (omega (arith, length-drop n text))

pub ended_line : (text : List ℕ) (at : ℕ) → IsFirstByte (is_byte 10) text (Some at) → IsFirstLine text (take at text) (take (length text - (at + 1)) (drop (at + 1) text))
ended_line text at found =
    let s = split_at text at found.0.high (eqb-true (get_or text at 0) 10 found.1) (λ k h. not_newline text k (found.0.before k (omega arith) h)) in
    let next : at + 1 ≡ suc at = omega arith in
    rw (from_there text (at + 1), next) record { unbroken = s.0; ends = inl s.1 }

pub last_line : (text : List ℕ) → text ≢ [] → IsFirstByte (is_byte 10) text None → IsFirstLine text text (take (length text - length text) (drop (length text) text))
last_line text some none =
    let end : drop (length text) text ≡ [] = drop_all (length text) text (omega arith) in
    rw (from_there text (length text), end) record {
      unbroken = all_of_each text (λ k h. not_newline text k (none k (omega arith) h));
      ends = inr (refl, some, refl);
    }

-- ---- the line at the front is one

one_line : (a b r s : List ℕ) → AllByRecursion (λ x. x ≢ 10) a → AllByRecursion (λ x. x ≢ 10) b → a ++ 10 ∷ r ≡ b ++ 10 ∷ s → (a ≡ b) × (r ≡ s)
one_line [] [] r s p q e = (refl, cc)
one_line [] (y ∷ b) r s p q e = let k : 10 ≡ y = cc in absurd (q.0 (sym k))
one_line (x ∷ a) [] r s p q e = let k : x ≡ 10 = cc in absurd (p.0 k)
one_line (x ∷ a) (y ∷ b) r s p q e = let m = one_line a b r s p.1 q.1 cc in (cc, m.1)

no_newline : (a b r : List ℕ) → AllByRecursion (λ x. x ≢ 10) a → a ≡ b ++ 10 ∷ r → ⊥
no_newline [] [] r p e = cc
no_newline [] (y ∷ b) r p e = cc
no_newline (x ∷ a) [] r p e = let k : x ≡ 10 = cc in p.0 k
no_newline (x ∷ a) (y ∷ b) r p e = no_newline a b r p.1 cc

pub one_first_line : (text a b r s : List ℕ) → IsFirstLine text a r → IsFirstLine text b s → (a ≡ b) × (r ≡ s)
one_first_line text a b r s h k = go h.ends k.ends
  where
    go : (text ≡ a ++ 10 ∷ r) ⊎ ((text ≡ a) × (a ≢ []) × (r ≡ [])) → (text ≡ b ++ 10 ∷ s) ⊎ ((text ≡ b) × (b ≢ []) × (s ≡ [])) → (a ≡ b) × (r ≡ s)
    go (inl e) (inl f) = one_line a b r s h.unbroken k.unbroken (sym e ∙ f)
    go (inl e) (inr f) = absurd (no_newline b a r k.unbroken (sym f.0 ∙ e))
    go (inr e) (inl f) = absurd (no_newline a b s h.unbroken (sym e.0 ∙ f))
    go (inr e) (inr f) = (sym e.0 ∙ f.0, e.2 ∙ sym f.2)

nothing_at_end : (a r : List ℕ) → (([] ≡ a ++ 10 ∷ r) ⊎ (([] ≡ a) × (a ≢ []) × (r ≡ []))) → ⊥
nothing_at_end [] r (inl e) = cc
nothing_at_end (x ∷ a) r (inl e) = cc
nothing_at_end a r (inr e) = e.1 (sym e.0)

-- where no text is left there is no line
pub no_line_at_end : (text line rest : List ℕ) → text ≡ [] → IsFirstLine text line rest → ⊥
no_line_at_end text line rest e h =
    let k = rw e at h.ends in
    nothing_at_end line rest k

-- ---- several lines

pub one_more_line : (text : List ℕ) (lines : List (List ℕ)) (from line after : List ℕ) → AreFirstLines text lines from → IsFirstLine from line after → AreFirstLines text (lines ++ line ∷ []) after
one_more_line text [] from line after e h = (after, rw (sym e) at h, refl)
one_more_line text (l ∷ lines) from line after w h = (w.0, w.1, one_more_line w.0 lines from line after w.2 h)

pub some_text : (text : List ℕ) → false ≡ (length text == 0) → text ≢ []
some_text [] h e = cc
some_text (b ∷ bs) h e = cc
