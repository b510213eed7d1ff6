-- The sets of a group.
use Rattle.std.proofs.Common.{◌≡◌, ◌∙◌, List, [], ◌∷◌, ◌++◌, Result, Ok, Err, map, sym, ap, append_assoc}
use Rattle.std.proofs.lemmas.List.{append-nil}
use Rattle.basic_types.specs.declared.word.Word.TheVariants as word
use Rattle.slot_lang.specs.Grammar.{Assignment, spell_assignment, tree_of_assignment, spell_set, spell_sets, trees_of_sets}
use Rattle.token_reading.specs.Lists.{spell_each}
use Rattle.token_reading.specs.code.Cursor.{NotAt, NotAtWord}
use Rattle.token_reading.specs.code.Reading.{EndsAnywhere, Found, Reads}
use Rattle.token_reading.specs.declared.fault.ParseFault.{ParseFault}
use Rattle.texts.specs.declared.symbol.Symbol.TheVariants.{CloseBrace}
use Rattle.syntax_trees.specs.declared.syntax.Stmt.{Stmt}
use Rattle.texts.specs.declared.token.Token.{Token}
use Rattle.texts.specs.declared.token.Token.TheVariants as token
use Rattle.token_reading.proofs.Underway.{None, Underway}

-- ---- a set

-- what is read behind `set`
pub set_reads : {before between : List Token} (after : List Token) (result : Result Stmt ParseFault) → before ≡ token.Word word.Set ∷ between → Reads spell_assignment tree_of_assignment EndsAnywhere between result after → Reads spell_set tree_of_assignment EndsAnywhere before result after
set_reads {before} {between} after (Ok s) e f =
    let a = f.spelled in
    record { reading = f.reading; spelled = cc; tree_is = f.tree_is; only = λ r rest ends g. f.only r rest ends cc }
set_reads {before} {between} after (Err fault) e none = λ k r rest ends g. none k r rest ends cc

pub no_set : {before : List Token} → NotAtWord word.Set before → None spell_set EndsAnywhere before
no_set none r rest ends g = none (spell_assignment r rest) g

-- ---- set {set} "}"

-- what is left of the sets
abbrev pub spell_left : List Assignment → List Token → List Token
spell_left sets after = spell_each spell_set sets (token.Symbol CloseBrace ∷ after)

abbrev pub SetsSoFar : List Token → List Stmt → List Token → Type 0
SetsSoFar before found now = Underway spell_sets trees_of_sets EndsAnywhere spell_left (λ sets found. found ++ map tree_of_assignment sets) before found now

pub no_first_set : {before : List Token} → None spell_set EndsAnywhere before → None spell_sets EndsAnywhere before
no_first_set none (a, others) rest ends g = none a (spell_left others rest) tt g

pub sets_start : {before now : List Token} {s : Stmt} → Found spell_set tree_of_assignment EndsAnywhere before s now → SetsSoFar before (s ∷ []) now
sets_start {before} {now} {s} f = record {
  goes_on = λ m rest g. let e = f.spelled in ((f.reading, m), cc, ap (λ x. x ∷ map tree_of_assignment m) f.tree_is);
  all = λ r rest ends g. (r.1, f.only r.0 (spell_left r.1 rest) tt g);
}

after_set : (m : List Assignment) (now after rest : List Token) {s : Stmt} → NotAt CloseBrace now → Found spell_set tree_of_assignment EndsAnywhere now s after → now ≡ spell_left m rest → (others : List Assignment) × (after ≡ spell_left others rest)
after_set [] now after rest unclosed f g = absurd (unclosed rest g)
after_set (a ∷ others) now after rest unclosed f g = (others, f.only a (spell_left others rest) tt g)

no_set_left : (m : List Assignment) (now rest : List Token) → NotAt CloseBrace now → None spell_set EndsAnywhere now → now ≡ spell_left m rest → ⊥
no_set_left [] now rest unclosed none g = unclosed rest g
no_set_left (a ∷ others) now rest unclosed none g = none a (spell_left others rest) tt g

closed : (m : List Assignment) (now after rest : List Token) → now ≡ token.Symbol CloseBrace ∷ after → now ≡ spell_left m rest → after ≡ rest
closed [] now after rest e g = cc
closed (a ∷ others) now after rest e g = cc

module _ {before : List Token} {found : List Stmt} {now : List Token} (h : SetsSoFar before found now) where
  pub sets_step : {s : Stmt} {after : List Token} → NotAt CloseBrace now → Found spell_set tree_of_assignment EndsAnywhere now s after → SetsSoFar before (found ++ s ∷ []) after
  sets_step {s} {after} unclosed f = record {
    goes_on = λ m rest g.
        let e = f.spelled in
        let w = h.goes_on (f.reading ∷ m) rest cc in
        (w.0, w.1, w.2 ∙ (ap (λ t. found ++ (t ∷ map tree_of_assignment m)) f.tree_is ∙ sym (append_assoc found (s ∷ []) (map tree_of_assignment m))));
    all = λ r rest ends g. let w = h.all r rest ends g in after_set w.0 now after rest unclosed f w.1;
  }

  pub sets_done : {after : List Token} → now ≡ token.Symbol CloseBrace ∷ after → Found spell_sets trees_of_sets EndsAnywhere before found after
  sets_done {after} e =
      let w = h.goes_on [] after e in
      record { reading = w.0; spelled = w.1; tree_is = w.2 ∙ append-nil found; only = λ r rest ends g. let v = h.all r rest ends g in closed v.0 now after rest e v.1 }

  pub sets_stuck : NotAt CloseBrace now → None spell_set EndsAnywhere now → None spell_sets EndsAnywhere before
  sets_stuck unclosed none r rest ends g = let w = h.all r rest ends g in no_set_left w.0 now rest unclosed none w.1
