-- The lines of a text that have tokens.
use Rattle.std.proofs.Common.{◌≡◌, ℕ, List, [], ◌∷◌, refl, sym, ◌∙◌, ap, subst}
use Rattle.texts.specs.Lines.{IsFirstLine, AreLines}
use Rattle.texts.specs.Pieces.{AreTokens, IsUncut}
use Rattle.texts.specs.declared.token.Token.{Token}
use Rattle.texts.proofs.Cut.{same_tokens}
use Rattle.texts.proofs.FirstLines.{one_first_line, no_line_at_end}
use Rattle.certificate_lang.specs.Reads.{before, AreRows, HasRows}
use Rattle.certificate_lang.specs.code.Reads.{TakesRow}

-- ---- a text has one list of rows

same_rows : (text : List ℕ) (ls ms : List (List ℕ)) (rs ss : List (List Token)) → AreLines text ls → AreLines text ms → AreRows ls rs → AreRows ms ss → rs ≡ ss
same_rows text [] [] rs ss l m h k = h ∙ sym k
same_rows text [] (y ∷ ms) rs ss l m h k = absurd (no_line_at_end text y m.0 l m.1)
same_rows text (x ∷ ls) [] rs ss l m h k = absurd (no_line_at_end text x l.0 m l.1)
same_rows text (x ∷ ls) (y ∷ ms) rs ss l m h k =
    let front = one_first_line text x y l.0 m.0 l.1 m.1 in
    let found : h.0 ≡ k.0 = same_tokens y h.0 k.0 (rw front.0 at h.2) k.2 in
    let later : h.1 ≡ k.1 = same_rows m.0 ls ms h.1 k.1 (rw front.1 at l.2) m.2 h.3 k.3 in
    let e = h.4 in
    let f = k.4 in
    cc

pub one_rows : (text : List ℕ) (rs ss : List (List Token)) → HasRows text rs → HasRows text ss → rs ≡ ss
one_rows text rs ss h k = same_rows text h.lines k.lines rs ss h.cut k.cut h.are_rows k.are_rows

-- ---- the line at the front

pub no_rows : (text : List ℕ) → text ≡ [] → HasRows text []
no_rows text e = record { lines = []; cut = e; are_rows = refl }

module _ {text line after : List ℕ} (front : IsFirstLine text line after) where
  first_row : {tokens : List Token} {later : List (List Token)} → AreTokens line tokens → HasRows after later → HasRows text (before tokens later)
  first_row {tokens} {later} cut h = record { lines = line ∷ h.lines; cut = (after, front, h.cut); are_rows = (tokens, later, cut, h.are_rows, refl) }

  rest_from : (ls : List (List ℕ)) (rows : List (List Token)) {tokens : List Token} → AreTokens line tokens → AreLines text ls → AreRows ls rows → (later : List (List Token)) × HasRows after later × (rows ≡ before tokens later)
  rest_from [] rows cut l h = absurd (no_line_at_end text line after l front)
  rest_from (x ∷ ls) rows {tokens} cut l h =
      let same = one_first_line text x line l.0 after l.1 front in
      let found = same_tokens line h.0 tokens (rw same.0 at h.2) cut in
      (h.1, record { lines = ls; cut = rw same.1 at l.2; are_rows = h.3 }, h.4 ∙ ap (λ ts. before ts (h.1)) found)

  rest_rows : {tokens : List Token} (rows : List (List Token)) → AreTokens line tokens → HasRows text rows → (later : List (List Token)) × HasRows after later × (rows ≡ before tokens later)
  rest_rows rows cut h = rest_from h.lines rows cut h.cut h.are_rows

  uncut_from : (ls : List (List ℕ)) (rows : List (List Token)) → IsUncut line → AreLines text ls → AreRows ls rows → ⊥
  uncut_from [] rows none l h = no_line_at_end text line after l front
  uncut_from (x ∷ ls) rows none l h =
      let same = one_first_line text x line l.0 after l.1 front in
      none h.0 (rw same.0 at h.2)

  pub uncut_rows : (rows : List (List Token)) → IsUncut line → HasRows text rows → ⊥
  uncut_rows rows none h = uncut_from h.lines rows none h.cut h.are_rows

-- ---- the lines so far have no tokens

pub record SameRows (text rest : List ℕ) : Type 0 where
  pub onward : (rows : List (List Token)) → HasRows rest rows → HasRows text rows
  pub back : (rows : List (List Token)) → HasRows text rows → HasRows rest rows

pub all_rows : (text : List ℕ) → SameRows text text
all_rows text = record { onward = λ rows h. h; back = λ rows h. h }

some_before : (tokens : List Token) (later : List (List Token)) → (tokens ≡ [] → ⊥) → before tokens later ≡ tokens ∷ later
some_before [] later some = absurd (some refl)
some_before (t ∷ ts) later some = refl

none_before : (tokens : List Token) (later : List (List Token)) → tokens ≡ [] → before tokens later ≡ later
none_before [] later e = refl
none_before (t ∷ ts) later e = cc

module _ {text rest : List ℕ} (so_far : SameRows text rest) where
  pub rows_end : rest ≡ [] → HasRows text []
  rows_end e = so_far.onward [] (no_rows rest e)

  module _ {line after : List ℕ} (front : IsFirstLine rest line after) where
    pub rows_uncut : IsUncut line → (rows : List (List Token)) → HasRows text rows → ⊥
    rows_uncut none rows h = uncut_rows front rows none (so_far.back rows h)

    module _ {tokens : List Token} (cut : AreTokens line tokens) where
      pub rows_skip : tokens ≡ [] → SameRows text after
      rows_skip e = record {
        onward = λ rows h. so_far.onward rows (subst (HasRows rest) (none_before tokens rows e) (first_row front cut h));
        back = λ rows h.
            let w = rest_rows front rows cut (so_far.back rows h) in
            subst (HasRows after) (sym (w.2 ∙ none_before tokens w.0 e)) w.1;
      }

      pub row_taken : (tokens ≡ [] → ⊥) → TakesRow text tokens after
      row_taken some = record {
        onward = λ later h. so_far.onward (tokens ∷ later) (subst (HasRows rest) (some_before tokens later some) (first_row front cut h));
        back = λ rows h.
            let w = rest_rows front rows cut (so_far.back rows h) in
            (w.0, w.1, w.2 ∙ some_before tokens w.0 some);
      }
