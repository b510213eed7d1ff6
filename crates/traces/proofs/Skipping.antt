-- The lines of a script, one after another, with those that have events.
use Rattle.std.proofs.Common.{◌≡◌, ◌∙◌, sym, ap, refl, subst, ℕ, zero, suc, ◌-◌, ◌≢◌, List, [], ◌∷◌, ◌++◌, map, inl, inr, Bor, Option, Some, None, length, arith}
use Rattle.std.proofs.lemmas.List.{map-append}
use Rattle.std.proofs.lemmas.Option.{slice_get-map, slice_get_past, slice_get_read}
use Rattle.std.specs.Prelude.{option_map, option_copied, slice_get}
use Rattle.std.specs.Slice.{IsItemAt}
use Rattle.std.specs.Str.{IsTrimAscii}
use Rattle.texts.specs.Lines.{IsFirstLine, AreFirstLines}
use Rattle.texts.proofs.FirstLines.{one_more_line}
use Rattle.diagnostics.specs.Blank.{IsBlank}
use Rattle.traces.specs.Statements.{IsStatement, HaveStatements, AreStatements, statement_of}

abbrev pub texts_of : List (Bor (List ℕ)) → List (List ℕ)
texts_of lines = map (λ line. line.now) lines

-- the lines up to what is left have these statements
pub record StatementsSoFar (script left : List ℕ) (found : List (Bor (List ℕ))) : Type 0 where
  pub lines : List (List ℕ)
  pub lead : AreFirstLines script lines left
  pub have : HaveStatements lines (texts_of found)

skipped_behind : (lines : List (List ℕ)) (line : List ℕ) (statements : List (List ℕ)) → HaveStatements lines statements → IsBlank line → HaveStatements (lines ++ line ∷ []) statements
skipped_behind [] line statements e h = inl (h, e)
skipped_behind (l ∷ lines) line statements (inl w) h = inl (w.0, skipped_behind lines line statements w.1 h)
skipped_behind (l ∷ lines) line statements (inr w) h = inr (w.0, w.1, w.2, w.3, skipped_behind lines line w.1 w.4 h)

statement_behind : (lines : List (List ℕ)) (line : List ℕ) (statements : List (List ℕ)) (statement : List ℕ) → HaveStatements lines statements → IsStatement line statement → HaveStatements (lines ++ line ∷ []) (statements ++ statement ∷ [])
statement_behind [] line statements statement e h = inr (statement, [], h, ap (λ s. s ++ statement ∷ []) e, refl)
statement_behind (l ∷ lines) line statements statement (inl w) h = inl (w.0, statement_behind lines line statements statement w.1 h)
statement_behind (l ∷ lines) line statements statement (inr w) h = inr (w.0, w.1 ++ statement ∷ [], w.2, ap (λ s. s ++ statement ∷ []) w.3, statement_behind lines line w.1 statement w.4 h)

pub none_yet : (script : List ℕ) → StatementsSoFar script script []
none_yet script = record { lines = []; lead = refl; have = refl }

pub skipped : (script left line rest : List ℕ) (found : List (Bor (List ℕ))) → StatementsSoFar script left found → IsFirstLine left line rest → IsBlank line → StatementsSoFar script rest found
skipped script left line rest found s f h = record {
  lines = s.lines ++ line ∷ [];
  lead = one_more_line script s.lines left line rest s.lead f;
  have = skipped_behind s.lines line (texts_of found) s.have h;
}

pub added : (script left line rest : List ℕ) (found more : List (Bor (List ℕ))) (statement : Bor (List ℕ)) → StatementsSoFar script left found → IsFirstLine left line rest → (¬ IsBlank line) → IsTrimAscii line statement.now → more ≡ found ++ statement ∷ [] → StatementsSoFar script rest more
added script left line rest found more statement s f h t e = record {
  lines = s.lines ++ line ∷ [];
  lead = one_more_line script s.lines left line rest s.lead f;
  have = subst (HaveStatements (s.lines ++ line ∷ [])) (sym (ap texts_of e ∙ map-append (λ l. l.now) found (statement ∷ []))) (statement_behind s.lines line (texts_of found) statement.now s.have (record { holds = h; trimmed = t }));
}

pub all_lines : (script left : List ℕ) (found : List (Bor (List ℕ))) → left ≡ [] → StatementsSoFar script left found → AreStatements script (texts_of found)
all_lines script left found e s = record { lines = s.lines; cut = subst (AreFirstLines script s.lines) e s.lead; have = s.have }

-- ---- the line of an event

pub item_at : {X : Type 0} → (xs : List X) (i : ℕ) (found : Option (Bor X)) → IsItemAt xs i found → option_copied found ≡ slice_get xs i
item_at xs i None g = sym (slice_get_past xs i g.3)
item_at xs i (Some x) g = sym (slice_get_read xs (length xs) i x.now refl g.3.0 g.1)

pub line_at : (lines seen : List (Bor (List ℕ))) (event : ℕ) (found : Option (Bor (List ℕ))) (statements : List (List ℕ)) → event ≢ 0 → found ≡ slice_get seen (event - 1) → seen ≡ lines → texts_of lines ≡ statements → option_map (λ l. l.now) found ≡ statement_of statements event
line_at lines seen zero found statements some p s v = absurd (some refl)
line_at lines seen (suc before) found statements some p s v =
    let place : suc before - 1 ≡ before = omega arith in
    let there : found ≡ slice_get lines before = p ∙ ap (λ k. slice_get seen k) place ∙ ap (λ ls. slice_get ls before) s in
    ap (option_map (λ l. l.now)) there ∙ sym (slice_get-map (λ l. l.now) lines before) ∙ ap (λ ls. slice_get ls before) v
