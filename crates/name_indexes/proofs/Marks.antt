-- Names of indexes, and their marks.
use Rattle.std.proofs.Common.{◌≡◌, ℕ, List, [], get_or, Option, Some, None, Bool, true, false, refl, sym, subst, ◌∙◌, inl, inr, true≢false}
use Rattle.std.proofs.lemmas.Option.{none-some}
use Rattle.name_indexes.specs.CallPlaces.{Index, place_at, SamePlaces}
use Rattle.name_indexes.specs.code.CallSteps.{KeepsOthers}
use Rattle.name_indexes.specs.code.Marks.{name_mark, AreMarked}
use Rattle.name_indexes.proofs.Indexing.{same_name}

-- no indexes have no name
pub none_marked : (marks : List Bool) → AreMarked marks []
none_marked marks count name place e = absurd (none-some place e)

-- a name more, which has its mark
pub marked_more : (marks more : List Bool) (own grown new : List Index) (name : List ℕ) → AreMarked marks own → SamePlaces own grown → KeepsOthers name grown new
    → get_or more (name_mark name) true ≡ true → ((k : ℕ) → get_or marks k true ≡ true → get_or more k true ≡ true) → AreMarked more new
marked_more marks more own grown new name are same others there kept count other place e =
    elim (same_name name other) [
      | inl is ↦ subst (λ (n : List ℕ). get_or more (name_mark n) true ≡ true) (sym is) there
      | inr not ↦ kept (name_mark other) (are count other place (sym (same count other) ∙ sym (others count other not) ∙ e))
    ]

-- a name whose mark isn't there
pub not_marked : (marks : List Bool) (indexes : List Index) (count : ℕ) (name : List ℕ) → AreMarked marks indexes → get_or marks (name_mark name) true ≡ false
    → None ≡ place_at indexes count name
not_marked marks indexes count name are off = by (place_at indexes count name) refl
  where
    by : (found : Option ℕ) → place_at indexes count name ≡ found → None ≡ place_at indexes count name
    by None e = sym e
    by (Some place) e = absurd (true≢false (sym (are count name place e) ∙ off))
