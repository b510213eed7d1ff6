-- Lists of parts with commas between them, in parentheses or behind a word.
use Rattle.std.proofs.Common.{◌≡◌, List, [], ◌∷◌, ◌++◌, refl, sym, ◌∙◌, ap, append_assoc, map, Result, Ok, Err}
use Rattle.std.proofs.lemmas.List.{append-nil}
use Rattle.basic_types.specs.declared.word.Word.{Word}
use Rattle.token_reading.specs.code.Cursor.{NotAt, NotAtWord}
use Rattle.token_reading.specs.code.Reading.{EndsAnywhere, Found}
use Rattle.token_reading.specs.declared.fault.ParseFault.{ParseFault}
use Rattle.texts.specs.declared.symbol.Symbol.TheVariants.{Open, Close, Comma}
use Rattle.texts.specs.declared.token.Token.{Token}
use Rattle.texts.specs.declared.token.Token.TheVariants as token
use Rattle.token_reading.specs.code.Lists.{IsPart, EndsAtComma, EndsParts, EndsAfter, ReadsParts, ReadsAfter}
use Rattle.token_reading.specs.Lists.{spell_further, spell_parts, trees_of_parts, spell_after, spell_others, spell_listed}
use Rattle.token_reading.proofs.Underway.{None, Underway}

-- found so far, from the first part at `before` on
abbrev pub PartsUnderway : {R A : Type 0} → (R → List Token → List Token) → (R → A) → (List Token → Type 0) → List Token → List A → List Token → Type 0
PartsUnderway spell tree Ends before found now = Underway (spell_parts spell) (trees_of_parts tree) (EndsParts Ends) (spell_further spell) (λ more found. found ++ map tree more) before found now

module _ {R A : Type 0} (spell : R → List Token → List Token) (tree : R → A) (Ends : List Token → Type 0) (at_comma : EndsAtComma Ends) where
  abbrev pub PartsSoFar : List Token → List A → List Token → Type 0
  PartsSoFar before found now = PartsUnderway spell tree Ends before found now

  -- ---- part {"," part}

  pub ends_further : (rs : List R) (rest : List Token) → EndsParts Ends rest → Ends (spell_further spell rs rest)
  ends_further [] rest ends = ends.part
  ends_further (r ∷ rs) rest ends = at_comma (spell r (spell_further spell rs rest))

  pub parts_no_first : {before : List Token} → None spell Ends before → None (spell_parts spell) (EndsParts Ends) before
  parts_no_first none (r, rs) rest ends g = none r (spell_further spell rs rest) (ends_further rs rest ends) g

  pub parts_start : {before now : List Token} {a : A} → Found spell tree Ends before a now → PartsSoFar before (a ∷ []) now
  parts_start {before} {now} {a} f = record {
    goes_on = λ m rest g. let s = f.spelled in ((f.reading, m), cc, ap (λ x. x ∷ map tree m) f.tree_is);
    all = λ r rest ends g. (r.1, f.only r.0 (spell_further spell r.1 rest) (ends_further r.1 rest ends) g);
  }

  after_comma : (m : List R) {a : A} (now between after rest : List Token) → EndsParts Ends rest → now ≡ token.Symbol Comma ∷ between → Found spell tree Ends between a after → now ≡ spell_further spell m rest → (ms : List R) × (after ≡ spell_further spell ms rest)
  after_comma [] now between after rest ends e f g = absurd (ends.no_comma between (sym g ∙ e))
  after_comma (r ∷ rs) now between after rest ends e f g = (rs, f.only r (spell_further spell rs rest) (ends_further rs rest ends) cc)

  none_after_comma : (m : List R) (now between rest : List Token) → EndsParts Ends rest → now ≡ token.Symbol Comma ∷ between → None spell Ends between → now ≡ spell_further spell m rest → ⊥
  none_after_comma [] now between rest ends e none g = ends.no_comma between (sym g ∙ e)
  none_after_comma (r ∷ rs) now between rest ends e none g = none r (spell_further spell rs rest) (ends_further rs rest ends) cc

  no_more : (m : List R) (now rest : List Token) → NotAt Comma now → now ≡ spell_further spell m rest → now ≡ rest
  no_more [] now rest comma g = g
  no_more (r ∷ rs) now rest comma g = absurd (comma _ g)

  module _ {before : List Token} {found : List A} {now : List Token} (h : PartsSoFar before found now) where
    pub parts_step : {between after : List Token} {a : A} → now ≡ token.Symbol Comma ∷ between → Found spell tree Ends between a after → PartsSoFar before (found ++ a ∷ []) after
    parts_step {between} {after} {a} e f = record {
      goes_on = λ m rest g.
          let s = f.spelled in
          let w = h.goes_on (f.reading ∷ m) rest cc in
          (w.0, w.1, w.2 ∙ (ap (λ x. found ++ (x ∷ map tree m)) f.tree_is ∙ sym (append_assoc found (a ∷ []) (map tree m))));
      all = λ r rest ends g. let w = h.all r rest ends g in after_comma w.0 now between after rest ends e f w.1;
    }

    pub parts_no_next : {between : List Token} → now ≡ token.Symbol Comma ∷ between → None spell Ends between → None (spell_parts spell) (EndsParts Ends) before
    parts_no_next {between} e none r rest ends g = let w = h.all r rest ends g in none_after_comma w.0 now between rest ends e none w.1

    pub parts_done : NotAt Comma now → Found (spell_parts spell) (trees_of_parts tree) (EndsParts Ends) before found now
    parts_done comma =
        let w = h.goes_on [] now refl in
        record { reading = w.0; spelled = w.1; tree_is = w.2 ∙ append-nil found; only = λ r rest ends g. let v = h.all r rest ends g in no_more v.0 now rest comma v.1 }

  -- ---- [word part {"," part}]

  no_part : (rs : List R) (word : Word) (before rest : List Token) → NotAtWord word before → before ≡ spell_after word spell rs rest → before ≡ rest
  no_part [] word before rest none g = g
  no_part (r ∷ rs) word before rest none g = absurd (none _ g)

  pub without_word : {before : List Token} {word : Word} → NotAtWord word before → Found (spell_after word spell) (map tree) (EndsAfter word Ends) before [] before
  without_word {before} {word} none = record { reading = []; spelled = refl; tree_is = refl; only = λ r rest ends g. no_part r word before rest none g }

  module _ {before between : List Token} {word : Word} (e : before ≡ token.Word word ∷ between) where
    after_word : (rs : List R) {found : List A} (after rest : List Token) → EndsAfter word Ends rest → Found (spell_parts spell) (trees_of_parts tree) (EndsParts Ends) between found after → before ≡ spell_after word spell rs rest → after ≡ rest
    after_word [] after rest ends f g = absurd (ends.no_word between (sym g ∙ e))
    after_word (r ∷ rs) after rest ends f g = f.only (r, rs) rest ends.parts cc

    none_after_word : None (spell_parts spell) (EndsParts Ends) between → None (spell_after word spell) (EndsAfter word Ends) before
    none_after_word none [] rest ends g = ends.no_word between (sym g ∙ e)
    none_after_word none (r ∷ rs) rest ends g = none (r, rs) rest ends.parts cc

    -- what is read behind the word
    pub behind_word : (result : Result (List A) ParseFault) (after : List Token) → ReadsParts spell tree Ends between result after → ReadsAfter word spell tree Ends before result after
    behind_word (Ok found) after f =
        let s = f.spelled in
        record { reading = f.reading.0 ∷ f.reading.1; spelled = cc; tree_is = f.tree_is; only = λ r rest ends g. after_word r after rest ends f g }
    behind_word (Err fault) after none = λ k. none_after_word (none k)

-- ---- "(" [part {"," part}] ")"

module _ {R A : Type 0} (spell : R → List Token → List Token) (tree : R → A) (Ends : List Token → Type 0) (part : IsPart spell Ends) where
  pub ends_at_close : (rest : List Token) → EndsParts Ends (token.Symbol Close ∷ rest)
  ends_at_close rest = record { part = part.at_close rest; no_comma = λ after e. cc }

  pub ends_others : (rs : List R) (rest : List Token) → Ends (spell_others spell rs rest)
  ends_others rs rest = ends_further spell tree Ends part.at_comma rs (token.Symbol Close ∷ rest) (ends_at_close rest)

  pub listed_unopened : {before : List Token} → NotAt Open before → None (spell_listed spell) EndsAnywhere before
  listed_unopened none [] rest ends g = none _ g
  listed_unopened none (r ∷ rs) rest ends g = none _ g

  module _ {before between : List Token} (e : before ≡ token.Symbol Open ∷ between) where
    empty_only : (rs : List R) (after rest : List Token) → between ≡ token.Symbol Close ∷ after → before ≡ spell_listed spell rs rest → after ≡ rest
    empty_only [] after rest f g = cc
    empty_only (r ∷ rs) after rest f g = absurd (part.unclosed r (spell_others spell rs rest) after cc)

    pub listed_empty : {after : List Token} → between ≡ token.Symbol Close ∷ after → Found (spell_listed spell) (map tree) EndsAnywhere before [] after
    listed_empty {after} f = record { reading = []; spelled = cc; tree_is = refl; only = λ r rest ends g. empty_only r after rest f g }

    pub listed_none : NotAt Close between → None (spell_parts spell) (EndsParts Ends) between → None (spell_listed spell) EndsAnywhere before
    listed_none unclosed none [] rest ends g = unclosed rest cc
    listed_none unclosed none (r ∷ rs) rest ends g = none (r, rs) (token.Symbol Close ∷ rest) (ends_at_close rest) cc

    module _ {found : List A} {at_close : List Token} (unclosed : NotAt Close between) (f : Found (spell_parts spell) (trees_of_parts tree) (EndsParts Ends) between found at_close) where
      where_closed : (rs : List R) (rest : List Token) → before ≡ spell_listed spell rs rest → at_close ≡ token.Symbol Close ∷ rest
      where_closed [] rest g = absurd (unclosed rest cc)
      where_closed (r ∷ rs) rest g = f.only (r, rs) (token.Symbol Close ∷ rest) (ends_at_close rest) cc

      pub listed_unclosed : NotAt Close at_close → None (spell_listed spell) EndsAnywhere before
      listed_unclosed none r rest ends g = none rest (where_closed r rest g)

      pub listed_found : {after : List Token} → at_close ≡ token.Symbol Close ∷ after → Found (spell_listed spell) (map tree) EndsAnywhere before found after
      listed_found {after} c =
          let s = f.spelled in
          record { reading = f.reading.0 ∷ f.reading.1; spelled = cc; tree_is = f.tree_is; only = λ r rest ends g. let w = where_closed r rest g in cc }
