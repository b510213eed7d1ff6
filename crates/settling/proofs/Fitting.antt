-- A list of numbers, each once, that are all in another list is no longer than that.
use Rattle.std.proofs.Common.{◌≡◌, ◌≢◌, ◌⊎◌, inl, inr, ℕ, zero, suc, ◌<◌, ◌≤◌, List, [], ◌∷◌, length, get_or, Any, refl, sym, ap, ◌∙◌, subst, arith}
use Rattle.std.specs.List.{Contains}
use Rattle.meta_model.specs.Members.{IsIn}
use Rattle.meta_model.specs.Sound.{AreOnce}
use Rattle.name_indexes.proofs.Zips.{any_of}
use Rattle.rank_check.proofs.Elements.{place_of}

-- the rest of a list, without one of its numbers
take_out : (x : ℕ) (ys : List ℕ) → IsIn x ys → (zs : List ℕ) × (length ys ≡ suc (length zs)) × ((q : ℕ) → q ≢ x → IsIn q ys → IsIn q zs)
take_out x [] none = absurd none
take_out x (y ∷ ys) (inl here) = (ys, refl, λ q other is. elim is [ inl also ↦ absurd (other (also ∙ sym here)) | inr rest ↦ rest ])
take_out x (y ∷ ys) (inr rest) =
    let r = take_out x ys rest in
    (y ∷ r.0, ap suc r.1, λ q other is. elim is [ inl also ↦ inl also | inr more ↦ inr (r.2 q other more) ])

pub met_again : (x : ℕ) (xs : List ℕ) → Contains xs x → Any (λ (b : ℕ). x ≡ b) xs
met_again x xs among = let k = place_of xs x among in any_of (λ (b : ℕ). x ≡ b) xs k.0 (record { item = x; is = k.1; has = refl })

pub behind : (x q : ℕ) (xs : List ℕ) → Contains xs q → Contains (x ∷ xs) q
behind x q xs among = (suc among.0, omega (arith, among.1), among.2)

pub in_front : (x : ℕ) (xs : List ℕ) → Contains (x ∷ xs) x
in_front x xs = (0, omega arith, refl)

pub fit : (xs ys : List ℕ) → AreOnce xs → ((q : ℕ) → Contains xs q → IsIn q ys) → length xs ≤ length ys
fit [] ys once all = omega arith
fit (x ∷ xs) ys once all =
    let r = take_out x ys (all x (in_front x xs)) in
    let rest =
    fit xs r.0 (λ twice. once (inr twice))
    (λ q among. r.2 q (λ same. once (inl (met_again x xs (subst (λ (n : ℕ). Contains xs n) same among)))) (all q (behind x q xs among))) in
    omega (arith, rest, r.1)

-- where an element is
pub place_in : (x : ℕ) (xs : List ℕ) (q : ℕ) → Contains (x ∷ xs) q → (q ≡ x) ⊎ Contains xs q
place_in x xs q among = by_place among.0 among.1 among.2
  where
    by_place : (k : ℕ) → k < length (x ∷ xs) → get_or (x ∷ xs) k q ≡ q → (q ≡ x) ⊎ Contains xs q
    by_place zero low is = inl (sym is)
    by_place (suc k) low is = inr (k, omega (arith, low), is)
