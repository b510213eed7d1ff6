-- The parts of a line.
use Rattle.std.proofs.Common.{◌≡◌, ◌≢◌, ℕ, zero, suc, ◌<◌, ◌+◌, ◌-◌, List, [], ◌∷◌, ◌++◌, length, map, take, drop, get_or, refl, sym, ◌∙◌, ap, Some, None, arith}
use Rattle.std.proofs.lemmas.Bool.{eq-eqb, eqb-true}
use Rattle.std.proofs.lemmas.List.{take_all, length-drop, map-append}
use Rattle.std.specs.List.{AllByRecursion}
use Rattle.memchr.specs.Find.{Passes, is_byte, IsFirstByte}
use Rattle.diagnostics.specs.OtherPlaces.{IsPart, AreParts}

-- ---- the first tab

split_at : (text : List ℕ) (at : ℕ) → at < length text → get_or text at 0 ≡ 9 → ((k : ℕ) → k < at → get_or text k 0 ≢ 9) → IsPart (take at text) × (text ≡ take at text ++ 9 ∷ drop (suc at) text)
split_at [] at within here before = absurd (omega arith)
split_at (b ∷ bs) zero within here before = (tt, cc)
split_at (b ∷ bs) (suc n) within here before =
    let r = split_at bs n (omega arith) here (λ k h. before (suc k) (omega arith)) in
    ((before 0 (omega arith), r.0), ap (λ xs. b ∷ xs) r.1)

all_of_each : (text : List ℕ) → ((k : ℕ) → k < length text → get_or text k 0 ≢ 9) → IsPart text
all_of_each [] each = tt
all_of_each (b ∷ bs) each = (each 0 (omega arith), all_of_each bs (λ k h. each (suc k) (omega arith)))

-- a byte that the search for tabs passes is none
not_tab : (text : List ℕ) (k : ℕ) → ¬ Passes (is_byte 9) text k → get_or text k 0 ≢ 9
not_tab text k passed same = passed (eq-eqb (get_or text k 0) 9 same)

-- the slice from `n` to the end
from_there : (text : List ℕ) (n : ℕ) → take (length text - n) (drop n text) ≡ drop n text
from_there text n = take_all (length text - n) (drop n text) (omega (arith, length-drop n text))

pub ended_part : (text : List ℕ) (at : ℕ) → IsFirstByte (is_byte 9) text (Some at) → IsPart (take at text) × (text ≡ take at text ++ 9 ∷ take (length text - (at + 1)) (drop (at + 1) text))
ended_part text at found =
    let s = split_at text at found.0.high (eqb-true (get_or text at 0) 9 found.1) (λ k h. not_tab text k (found.0.before k (omega arith) h)) in
    let next : at + 1 ≡ suc at = omega arith in
    rw (from_there text (at + 1), next) s

pub last_part : (text : List ℕ) → IsFirstByte (is_byte 9) text None → IsPart text
last_part text none = all_of_each text (λ k h. not_tab text k (none k (omega arith) h))

-- ---- several parts

-- the parts are at the front of the line, each with its tab, and `rest` follows them
abbrev pub AreFirstParts : List ℕ → List (List ℕ) → List ℕ → Type 0
AreFirstParts line [] rest = line ≡ rest
AreFirstParts line (part ∷ parts) rest = (after : List ℕ) × IsPart part × (line ≡ part ++ 9 ∷ after) × AreFirstParts after parts rest

pub one_more_part : (line : List ℕ) (parts : List (List ℕ)) (from part after : List ℕ) → AreFirstParts line parts from → IsPart part → from ≡ part ++ 9 ∷ after → AreFirstParts line (parts ++ part ∷ []) after
one_more_part line [] from part after e p f = (after, p, e ∙ f, refl)
one_more_part line (q ∷ parts) from part after w p f = (w.0, w.1, w.2, one_more_part w.0 parts from part after w.3 p f)

pub all_parts : (line : List ℕ) (parts : List (List ℕ)) (last : List ℕ) → AreFirstParts line parts last → IsPart last → AreParts line (parts ++ last ∷ [])
all_parts line [] last e p = (p, e)
all_parts line (q ∷ []) last w p = (w.0, w.1, w.2, (p, w.3))
all_parts line (q ∷ r ∷ parts) last w p = (w.0, w.1, w.2, all_parts w.0 (r ∷ parts) last w.3 p)

-- the same of parts that are lent
module _ {A : Type 0} (now : A → List ℕ) (line : List ℕ) (parts new : List A) where
  pub part_next : (from : List ℕ) (part : A) (after : List ℕ) → AreFirstParts line (map now parts) from → IsPart (now part) → from ≡ now part ++ 9 ∷ after → new ≡ parts ++ part ∷ [] → AreFirstParts line (map now new) after
  part_next from part after w p f is = rw (is, map-append now parts (part ∷ [])) (one_more_part line (map now parts) from (now part) after w p f)

  pub parts_end : (part : A) → AreFirstParts line (map now parts) (now part) → IsPart (now part) → new ≡ parts ++ part ∷ [] → AreParts line (map now new)
  parts_end part w p is = rw (is, map-append now parts (part ∷ [])) (all_parts line (map now parts) (now part) w p)

-- ---- a line has its parts in one way

one_part : (a b r s : List ℕ) → IsPart a → IsPart b → a ++ 9 ∷ r ≡ b ++ 9 ∷ s → (a ≡ b) × (r ≡ s)
one_part [] [] r s p q e = (refl, cc)
one_part [] (y ∷ b) r s p q e = let k : 9 ≡ y = cc in absurd (q.0 (sym k))
one_part (x ∷ a) [] r s p q e = let k : x ≡ 9 = cc in absurd (p.0 k)
one_part (x ∷ a) (y ∷ b) r s p q e = let m = one_part a b r s p.1 q.1 cc in (cc, m.1)

no_tab : (a b r : List ℕ) → IsPart a → a ≡ b ++ 9 ∷ r → ⊥
no_tab [] [] r p e = cc
no_tab [] (y ∷ b) r p e = cc
no_tab (x ∷ a) [] r p e = let k : x ≡ 9 = cc in p.0 k
no_tab (x ∷ a) (y ∷ b) r p e = no_tab a b r p.1 cc

pub one_parting : (line : List ℕ) (ps qs : List (List ℕ)) → AreParts line ps → AreParts line qs → ps ≡ qs
one_parting line [] qs p q = absurd p
one_parting line (a ∷ []) [] p q = absurd q
one_parting line (a ∷ d ∷ ps) [] p q = absurd q
one_parting line (a ∷ []) (b ∷ []) p q = ap (λ x. x ∷ []) (sym p.1 ∙ q.1)
one_parting line (a ∷ []) (b ∷ c ∷ qs) p q = absurd (no_tab a b q.0 p.0 (sym p.1 ∙ q.2))
one_parting line (a ∷ d ∷ ps) (b ∷ []) p q = absurd (no_tab b a p.0 q.0 (sym q.1 ∙ p.2))
one_parting line (a ∷ d ∷ ps) (b ∷ c ∷ qs) p q =
    let same = one_part a b p.0 q.0 p.1 q.1 (sym p.2 ∙ q.2) in
    let rest = one_parting q.0 (d ∷ ps) (c ∷ qs) (rw same.1 at p.3) q.3 in
    cc
