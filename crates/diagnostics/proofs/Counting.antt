-- Which lines are no places.
use Rattle.std.proofs.Common.{◌≡◌, ◌≢◌, ℕ, ◌<◌, ◌≤◌, true, ◌==◌, List, [], ◌∷◌, length, map, get_or, refl, sym, ◌∙◌, ap, None, arith}
use Rattle.texts.proofs.Cut.{at_end}
use Rattle.texts.specs.Numerals.{value_of}
use Rattle.diagnostics.specs.OtherPlaces.{IsCount, AreParts, ArePlace, IsPlaceLine}
use Rattle.diagnostics.specs.code.Parting.{FindsCount}
use Rattle.diagnostics.specs.declared.other_text.place.OtherPlace.{OtherPlace}
use Rattle.diagnostics.proofs.Parting.{one_parting}

-- the line is no place
abbrev pub IsNone : List ℕ → Type 0
IsNone line = (place : OtherPlace) → IsPlaceLine line place → ⊥

-- which has fewer parts than a place has
pub few_parts : {line : List ℕ} (parts : List (List ℕ)) → AreParts line parts → length parts < 6 → IsNone line
few_parts {line} parts cut few place is =
    let same = one_parting line parts is.parts cut is.cut ∙ is.are_place.are in
    omega (arith, few, ap (λ (ps : List (List ℕ)). length ps) same)

-- it is a place of one line and column alone
pub same_spot : (line : List ℕ) (p q : OtherPlace) → IsPlaceLine line p → IsPlaceLine line q → (p.line ≡ q.line) × (p.column ≡ q.column)
same_spot line p q h k =
    let same = sym h.are_place.are ∙ (one_parting line h.parts k.parts h.cut k.cut ∙ k.are_place.are) in
    let first : h.are_place.line_part ≡ k.are_place.line_part = cc in
    let second : h.are_place.column_part ≡ k.are_place.column_part = cc in (
      h.are_place.line.numeral.value ∙ (ap value_of first ∙ sym k.are_place.line.numeral.value),
      h.are_place.column.numeral.value ∙ (ap value_of second ∙ sym k.are_place.column.numeral.value),
    )

module _ (line a b c d e f : List ℕ) (rest : List (List ℕ)) (cut : AreParts line (a ∷ b ∷ c ∷ d ∷ e ∷ f ∷ rest)) where
  parted : (place : OtherPlace) (is : IsPlaceLine line place) → a ∷ b ∷ c ∷ d ∷ e ∷ f ∷ rest ≡ is.parts
  parted place is = one_parting line (a ∷ b ∷ c ∷ d ∷ e ∷ f ∷ rest) is.parts cut is.cut

  pub no_line : FindsCount a None → IsNone line
  no_line none place is =
      let same = parted place is ∙ is.are_place.are in
      let first : is.are_place.line_part ≡ a = cc in
      none place.line (rw first at is.are_place.line)

  pub no_column : FindsCount b None → IsNone line
  no_column none place is =
      let same = parted place is ∙ is.are_place.are in
      let second : is.are_place.column_part ≡ b = cc in
      none place.column (rw second at is.are_place.column)

  pub no_file : c ≡ [] → IsNone line
  no_file none place is =
      let same = parted place is ∙ is.are_place.are in
      let third : place.file.now ≡ c = cc in
      is.are_place.file (third ∙ none)

  pub no_other_line : FindsCount d None → IsNone line
  no_other_line none place is =
      let same = parted place is ∙ is.are_place.are in
      let fourth : is.are_place.other_line_part ≡ d = cc in
      none place.other_line (rw fourth at is.are_place.other_line)

  pub no_other_column : FindsCount e None → IsNone line
  no_other_column none place is =
      let same = parted place is ∙ is.are_place.are in
      let fifth : is.are_place.other_column_part ≡ e = cc in
      none place.other_column (rw fifth at is.are_place.other_column)

-- ---- parts that are lent, of which there are six at least

six : {A : Type 0} (ps : List A) → 6 ≤ length ps → (a b c d e f : A) × (rest : List A) × (ps ≡ a ∷ b ∷ c ∷ d ∷ e ∷ f ∷ rest)
six [] enough = absurd (omega (arith, enough))
six (a ∷ []) enough = absurd (omega (arith, enough))
six (a ∷ b ∷ []) enough = absurd (omega (arith, enough))
six (a ∷ b ∷ c ∷ []) enough = absurd (omega (arith, enough))
six (a ∷ b ∷ c ∷ d ∷ []) enough = absurd (omega (arith, enough))
six (a ∷ b ∷ c ∷ d ∷ e ∷ []) enough = absurd (omega (arith, enough))
six (a ∷ b ∷ c ∷ d ∷ e ∷ f ∷ rest) enough = (a, b, c, d, e, f, rest, refl)

module _ {A : Type 0} (now : A → List ℕ) (line : List ℕ) (ps : List A) (x : A) (enough : 6 ≤ length ps) (cut : AreParts line (map now ps)) where
  pub lent_line : FindsCount (now (get_or ps 0 x)) None → IsNone line
  lent_line none =
      let s = six ps enough in
      no_line line (now s.0) (now s.1) (now s.2) (now s.3) (now s.4) (now s.5) (map now s.6) (rw s.7 at cut) (rw s.7 at none)

  pub lent_column : FindsCount (now (get_or ps 1 x)) None → IsNone line
  lent_column none =
      let s = six ps enough in
      no_column line (now s.0) (now s.1) (now s.2) (now s.3) (now s.4) (now s.5) (map now s.6) (rw s.7 at cut) (rw s.7 at none)

  pub lent_file : (length (now (get_or ps 2 x)) == 0) ≡ true → IsNone line
  lent_file none =
      let s = six ps enough in
      no_file line (now s.0) (now s.1) (now s.2) (now s.3) (now s.4) (now s.5) (map now s.6) (rw s.7 at cut) (at_end (now s.2) (sym (rw s.7 at none)))

  pub lent_other_line : FindsCount (now (get_or ps 3 x)) None → IsNone line
  lent_other_line none =
      let s = six ps enough in
      no_other_line line (now s.0) (now s.1) (now s.2) (now s.3) (now s.4) (now s.5) (map now s.6) (rw s.7 at cut) (rw s.7 at none)

  pub lent_other_column : FindsCount (now (get_or ps 4 x)) None → IsNone line
  lent_other_column none =
      let s = six ps enough in
      no_other_column line (now s.0) (now s.1) (now s.2) (now s.3) (now s.4) (now s.5) (map now s.6) (rw s.7 at cut) (rw s.7 at none)
