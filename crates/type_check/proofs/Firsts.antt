-- Searching a list for the first element without something.
use Rattle.std.proofs.Common.{◌≡◌, ℕ, ◌<◌, ◌≤◌, ◌+◌, List, length, get_or, slice_get, Some, refl, sym, ◌∙◌, subst, arith, below_more}
use Rattle.std.proofs.lemmas.Option.{slice_get_within, same_Some, slice_get_read}
use Rattle.type_check.specs.Firsts.{AllHave, LacksFirst, IsFirstWithout}

module _ {X : Type 0} (P : X → Type 0) (xs : List X) where
  -- the elements before a place have P
  abbrev pub HaveBefore : ℕ → Type 0
  HaveBefore i = (k : ℕ) → k < i → (x : X) → slice_get xs k ≡ Some x → P x

  at : (i : ℕ) (x : X) → i < length xs → x ≡ get_or xs i x → slice_get xs i ≡ Some x
  at i x inside is = slice_get_read xs (length xs) i x refl inside is

  pub have_more : (i : ℕ) (x : X) → HaveBefore i → i < length xs → x ≡ get_or xs i x → P x → HaveBefore (i + 1)
  have_more i x before inside is has = below_more _ _ before (λ y e. subst P (same_Some _ _ (sym (at i x inside is) ∙ e)) has)

  pub have_all : (i : ℕ) → HaveBefore i → length xs ≤ i → AllHave P xs
  have_all i before past k x e =
      let within : k < length xs = slice_get_within xs k x e in
      before k (omega arith) x e

  pub first_here : (i : ℕ) (x : X) → HaveBefore i → i < length xs → x ≡ get_or xs i x → ¬ P x → LacksFirst P xs i x
  first_here i x before inside is not = record { is = at i x inside is; lacks = not; before = λ k y low e. before k low y e }

  pub first_at : (i : ℕ) (x : X) → HaveBefore i → i < length xs → x ≡ get_or xs i x → ¬ P x → IsFirstWithout P xs i
  first_at i x before inside is not = record { item = x; first = first_here i x before inside is not }
