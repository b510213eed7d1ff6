-- Searches that go on from one list to the next.
use Rattle.std.proofs.Common.{◌≡◌, inl, inr, ℕ, zero, suc, ◌+◌, ◌^◌, ◌<◌, List, [], ◌∷◌, ◌++◌, length, refl, sym, ap, ◌∙◌, subst, arith}
use Rattle.std.proofs.lemmas.List.{length-append}
use Rattle.std.proofs.lemmas.Option.{slice_get_within, same_Some, none-some}
use Rattle.name_indexes.specs.Places.{StandsFirst, NoneStands}
use Rattle.effect_scan.proofs.Numbered.{get_left, get_right, get_either}
use Rattle.edge_reasons.specs.Order.{capped}
use Rattle.edge_reasons.specs.Searches.{FirstFrom, NoneFrom}

-- what is counted on from a number that is written down is counted on from the number
pub capped_on : (a b c m n : ℕ) → m ≡ capped (a + b) → n ≡ capped (m + c) → n ≡ capped (a + (b + c))
capped_on a b c m n e h = omega (arith, e, h)

module _ {X : Type 0} (P : X → Type 0) (xs ys : List X) where
  none_in_both : NoneStands P xs → NoneStands P ys → NoneStands P (xs ++ ys)
  none_in_both left right k at =
      elim (get_either xs ys k at.item at.is) [
        | inl l ↦ left k (record { item = at.item; is = l.1; has = at.has })
        | inr r ↦ right r.0 (record { item = at.item; is = r.2; has = at.has })
      ]

  first_in_left : (n : ℕ) → StandsFirst P xs n → StandsFirst P (xs ++ ys) n
  first_in_left n h =
      let within : n < length xs = slice_get_within xs n h.at.item h.at.is in
      record {
        at = record { item = h.at.item; is = get_left xs ys n within ∙ h.at.is; has = h.at.has };
        first = λ k below at.
            let nearer : k < length xs = omega (arith, below, within) in
            h.first k below (record { item = at.item; is = sym (get_left xs ys k nearer) ∙ at.is; has = at.has });
      }

  first_in_right : (n : ℕ) → NoneStands P xs → StandsFirst P ys n → StandsFirst P (xs ++ ys) (length xs + n)
  first_in_right n none h = record {
    at = record { item = h.at.item; is = get_right xs ys (length xs + n) n refl ∙ h.at.is; has = h.at.has };
    first = λ k below at.
        elim (get_either xs ys k at.item at.is) [
          | inl l ↦ none k (record { item = at.item; is = l.1; has = at.has })
          | inr r ↦
              let nearer : r.0 < n = omega (arith, below, r.1) in
              h.first r.0 nearer (record { item = at.item; is = r.2; has = at.has })
        ];
  }

  pub first_then : (start number : ℕ) → FirstFrom P xs start number → FirstFrom P (xs ++ ys) start number
  first_then start number h = record { place = h.place; first = first_in_left h.place h.first; is = h.is }

  pub none_then_first : (start next number : ℕ) → NoneFrom P xs start next → FirstFrom P ys next number → FirstFrom P (xs ++ ys) start number
  none_then_first start next number l r = record {
    place = length xs + r.place;
    first = first_in_right r.place l.none r.first;
    is = capped_on start (length xs) r.place next number l.is r.is;
  }

  pub none_then_none : (start next end : ℕ) → NoneFrom P xs start next → NoneFrom P ys next end → NoneFrom P (xs ++ ys) start end
  none_then_none start next end l r = record {
    none = none_in_both l.none r.none;
    is = capped_on start (length xs) (length ys) next end l.is r.is ∙ ap (λ (n : ℕ). capped (start + n)) (sym (length-append xs ys));
  }

module _ {X : Type 0} (P : X → Type 0) where
  pub none_of_none : (start : ℕ) → start < 2 ^ 64 → NoneFrom P [] start start
  none_of_none start fits = record { none = λ k at. none-some at.item at.is; is = omega (arith, fits) }

  pub first_of_all : (x : X) (xs : List X) (start : ℕ) → start < 2 ^ 64 → P x → FirstFrom P (x ∷ xs) start start
  first_of_all x xs start fits has = record {
    place = 0;
    first = record { at = record { item = x; is = refl; has = has }; first = λ k below at. absurd (omega (arith, below)) };
    is = omega (arith, fits);
  }

  none_of_one : (x : X) → ¬ P x → NoneStands P (x ∷ [])
  none_of_one x not zero at = not (subst P (same_Some _ _ (sym at.is)) at.has)
  none_of_one x not (suc k) at = none-some at.item at.is

  pub none_at_one : (x : X) (start next : ℕ) → ¬ P x → next ≡ capped (start + 1) → NoneFrom P (x ∷ []) start next
  none_at_one x start next not is = record { none = none_of_one x not; is = is }
