-- Lists in which nothing appears twice.
use Rattle.std.proofs.Common.{◌≡◌, ℕ, zero, suc, ◌<◌, ◌⊎◌, inl, inr, List, [], ◌∷◌, ◌++◌, length, get_or, refl, sym, subst, arith}
use Rattle.std.specs.List.{Contains}
use Rattle.std.proofs.lemmas.List.Elements.{Contains-append_left, Contains-append_right, Contains-append_cases}
use Rattle.rank_graph.specs.Walks.{AreDistinct}

pub in_first : {X : Type 0} (x : X) (xs : List X) → Contains (x ∷ xs) x
in_first x xs = (0, omega arith, refl)

pub in_rest : {X : Type 0} (x : X) (xs : List X) (y : X) → Contains xs y → Contains (x ∷ xs) y
in_rest x xs y h = Contains-append_right (x ∷ []) xs y h

pub cons_cases : {X : Type 0} (x : X) (xs : List X) (y : X) → Contains (x ∷ xs) y → (x ≡ y) ⊎ Contains xs y
cons_cases {X} x xs y h = go h.0 h.1 h.2
  where
    go : (k : ℕ) → k < length (x ∷ xs) → get_or (x ∷ xs) k y ≡ y → (x ≡ y) ⊎ Contains xs y
    go zero l e = inl e
    go (suc k) l e = inr (k, omega arith, e)

-- one list behind another
record Apart {X : Type 0} (xs ys : List X) : Type 0 where
  left : AreDistinct xs
  right : AreDistinct ys
  apart : (x : X) → Contains xs x → Contains ys x → ⊥

split : {X : Type 0} (xs ys : List X) → AreDistinct (xs ++ ys) → Apart xs ys
split [] ys h = record { left = tt; right = h; apart = λ x a b. omega (arith, a.1) }
split (x ∷ xs) ys h =
    let rest = split xs ys h.1 in
    record {
      left = (λ held. h.0 (Contains-append_left xs ys x held), rest.left);
      right = rest.right;
      apart = λ y a b. elim (cons_cases x xs y a) [
        | inl e ↦ h.0 (Contains-append_right xs ys x (subst (λ z. Contains ys z) (sym e) b))
        | inr c ↦ rest.apart y c b
      ];
    }

join : {X : Type 0} (xs ys : List X) → Apart xs ys → AreDistinct (xs ++ ys)
join [] ys a = a.right
join (x ∷ xs) ys a = (
  λ held. elim (Contains-append_cases xs ys x held) [ inl h ↦ a.left.0 h | inr h ↦ a.apart x (in_first x xs) h ],
  join xs ys (record { left = a.left.1; right = a.right; apart = λ y h k. a.apart y (in_rest x xs y h) k }),
)

pub swapped : {X : Type 0} (xs ys : List X) → AreDistinct (xs ++ ys) → AreDistinct (ys ++ xs)
swapped xs ys h =
    let parts = split xs ys h in
    join ys xs (record { left = parts.right; right = parts.left; apart = λ x a b. parts.apart x b a })
