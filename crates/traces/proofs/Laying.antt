-- The lines of a trace, one after another, as they are laid out.
use Rattle.std.proofs.Common.{◌≡◌, ◌∙◌, sym, ap, refl, subst, ℕ, Bool, List, [], ◌∷◌, ◌++◌, ◌↔◌, inl, inr, Option, Some, None, Result, Ok, Err, Bor, option_map, append_assoc}
use Rattle.std.specs.Prelude.{IfOk}
use Rattle.std.proofs.lemmas.List.{append-nil}
use Rattle.texts.specs.Lines.{IsFirstLine, AreFirstLines}
use Rattle.texts.proofs.FirstLines.{one_more_line}
use Rattle.traces.specs.Shown.{ShowsLine}
use Rattle.traces.specs.Events.{IsEventsLine}
use Rattle.traces.specs.Statements.{AreStatements, statement_of}
use Rattle.traces.specs.LaidOut.{IsBehind, IsLaidOutAs, AreLaidOutAs, IsLaidOut, IsLaidOutBeside, FindsStatement, LaysOutLine, behind_of}

-- ---- the line of the script

pub none_of_script : (statements : List (List ℕ)) (text : List ℕ) (number : Option ℕ) (found : Option (Bor (List ℕ))) → number ≡ None → found ≡ None → ((event : ℕ) → IsEventsLine text event ↔ (number ≡ Some event)) → FindsStatement statements text found
none_of_script statements text number found n f each =
    subst (FindsStatement statements text) (sym f) (λ event g. let k : None ≡ Some event = sym n ∙ (each event).0 g in cc)

pub of_event : (statements : List (List ℕ)) (text : List ℕ) (event : ℕ) (found : Option (Bor (List ℕ))) → ((n : ℕ) → IsEventsLine text n ↔ (Some event ≡ Some n)) → option_map (λ line. line.now) found ≡ statement_of statements event → FindsStatement statements text found
of_event statements text event None each s = λ n g. let e = (each n).0 g in let k : event ≡ n = cc in subst (λ m. statement_of statements m ≡ None) k (sym s)
of_event statements text event (Some found) each s = (event, (each event).1 refl, sym s)

-- ---- one line

pub is_behind : (statements : List (List ℕ)) (text : List ℕ) (found : Option (Bor (List ℕ))) → FindsStatement statements text found → IsBehind statements text (behind_of found)
is_behind statements text None f = inr (f, refl)
is_behind statements text (Some found) f = inl (f.0, found.now, f.1, f.2, refl)

regroup : (a b c : List ℕ) → ((a ++ b) ++ c) ++ 10 ∷ [] ≡ a ++ ((b ++ c) ++ 10 ∷ [])
regroup a b c = simp append_assoc

pub laid_out_line : (colours : Bool) (statements : List (List ℕ)) (text before shown more whole : List ℕ) (found : Option (Bor (List ℕ))) → ShowsLine colours text before shown → FindsStatement statements text found → more ≡ shown ++ behind_of found → whole ≡ more ++ 10 ∷ [] → LaysOutLine colours statements text before whole
laid_out_line colours statements text before shown more whole found s f m n =
    let all : whole ≡ before ++ ((s.0 ++ behind_of found) ++ 10 ∷ []) =
    n ∙ ap (λ x. x ++ 10 ∷ []) (m ∙ ap (λ x. x ++ behind_of found) s.2) ∙ regroup before s.0 (behind_of found) in
    ((s.0 ++ behind_of found) ++ 10 ∷ [], record { shown = s.0; behind = behind_of found; is_shown = s.1; is_behind = is_behind statements text found f; whole = refl }, all)

-- ---- several lines

-- the lines up to what is left, laid out
pub record LaidOutSoFar (colours : Bool) (statements : List (List ℕ)) (trace left output : List ℕ) : Type 0 where
  pub lines : List (List ℕ)
  pub lead : AreFirstLines trace lines left
  pub laid_out : AreLaidOutAs colours statements lines output

pub nothing_yet : (colours : Bool) (statements : List (List ℕ)) (trace output : List ℕ) → output ≡ [] → LaidOutSoFar colours statements trace trace output
nothing_yet colours statements trace output e = record { lines = []; lead = refl; laid_out = e }

behind_them : (colours : Bool) (statements lines : List (List ℕ)) (line output more : List ℕ) → AreLaidOutAs colours statements lines output → IsLaidOutAs colours statements line more → AreLaidOutAs colours statements (lines ++ line ∷ []) (output ++ more)
behind_them colours statements [] line output more e m = (more, [], m, refl, ap (λ o. o ++ more) e ∙ sym (append-nil more))
behind_them colours statements (l ∷ lines) line output more w m =
    (w.0, w.1 ++ more, w.2, behind_them colours statements lines line w.1 more w.3 m, ap (λ o. o ++ more) w.4 ∙ append_assoc w.0 w.1 more)

pub one_more : (colours : Bool) (statements : List (List ℕ)) (trace left line rest before after : List ℕ) → LaidOutSoFar colours statements trace left before → IsFirstLine left line rest → LaysOutLine colours statements line before after → LaidOutSoFar colours statements trace rest after
one_more colours statements trace left line rest before after s f l = record {
  lines = s.lines ++ line ∷ [];
  lead = one_more_line trace s.lines left line rest s.lead f;
  laid_out = subst (AreLaidOutAs colours statements (s.lines ++ line ∷ [])) (sym l.2) (behind_them colours statements s.lines line before l.0 s.laid_out l.1);
}

pub all_lines : (colours : Bool) (statements : List (List ℕ)) (trace left output : List ℕ) → left ≡ [] → LaidOutSoFar colours statements trace left output → IsLaidOutBeside colours statements trace output
all_lines colours statements trace left output e s = record {
  lines = s.lines;
  cut = subst (AreFirstLines trace s.lines) e s.lead;
  laid_out = s.laid_out;
}

-- ---- beside a script

pub beside_script : {X E : Type 0} (colours : Bool) (statements : List (List ℕ)) (trace script : List ℕ) (items : X → List ℕ) (r : Result X E) → AreStatements script statements → IfOk r (λ shown. IsLaidOutBeside colours statements trace (items shown)) → IfOk r (λ shown. IsLaidOut colours trace script (items shown))
beside_script colours statements trace script items (Ok shown) of_script beside = record { statements = statements; of_script = of_script; beside = beside }
beside_script colours statements trace script items (Err why) of_script beside = tt
