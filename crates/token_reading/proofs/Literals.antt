-- Numbers and literals.
use Rattle.std.proofs.Common.{◌≡◌, ◌<◌, ◌≤◌, ◌∙◌, ℕ, List, [], ◌∷◌, true, false, pos, ◌-ℤ◌, refl, sym, ap, arith}
use Rattle.basic_types.specs.Text.{IsText}
use Rattle.syntax_trees.specs.declared.syntax.Literal.{Literal}
use Rattle.syntax_trees.specs.declared.syntax.Literal.TheVariants as literal
use Rattle.basic_types.specs.declared.word.Word.{Word}
use Rattle.basic_types.specs.declared.word.Word.TheVariants as word
use Rattle.token_reading.specs.code.Cursor.{NotAt}
use Rattle.token_reading.specs.Literals.{greatest, deepest, UnsignedReading, plain, truth, quoted, null, token_of_unsigned, LiteralReading, unsigned, negative, spell_literal, tree_of_literal}
use Rattle.token_reading.specs.code.Literals.{IsUnsigned}
use Rattle.texts.specs.Numerals.{value_of, spell_numeral}
use Rattle.token_reading.specs.code.Reading.{EndsAnywhere, Found}
use Rattle.texts.specs.declared.symbol.Symbol.{Symbol}
use Rattle.texts.specs.declared.symbol.Symbol.TheVariants.{Minus}
use Rattle.texts.specs.declared.token.Token.{Token}
use Rattle.texts.specs.declared.token.Token.TheVariants as token
use Rattle.token_reading.proofs.Underway.{None}

-- ---- numbers

pub number_found : {before after : List Token} (most : ℕ) (digits : List ℕ) (n : ℕ) → before ≡ token.Number digits ∷ after → n ≡ value_of digits → n ≤ most → Found (spell_numeral most) (λ m. value_of m.digits) EndsAnywhere before n after
number_found {before} {after} most digits n e same fits = record {
  reading = record { digits = digits; fits = omega arith };
  spelled = e;
  tree_is = sym same;
  only = λ r rest ends g. cc;
}

pub number_too_large : {before after : List Token} (most : ℕ) (digits : List ℕ) → before ≡ token.Number digits ∷ after → most < value_of digits → None (spell_numeral most) EndsAnywhere before
number_too_large {before} {after} most digits e large r rest ends g =
    let same : r.digits ≡ digits = cc in
    let fits : value_of digits ≤ most = rw same at r.fits in
    absurd (omega arith)

pub no_number_at : {before after : List Token} (most : ℕ) (t : Token) → ((ds : List ℕ) → t ≡ token.Number ds → ⊥) → before ≡ t ∷ after → None (spell_numeral most) EndsAnywhere before
no_number_at {before} {after} most t other e r rest ends g = other r.digits cc

pub numeral_fits : {most n : ℕ} {before after : List Token} → Found (spell_numeral most) (λ m. value_of m.digits) EndsAnywhere before n after → n ≤ most
numeral_fits h = omega (arith, h.tree_is, h.reading.fits)

-- ---- unsigned literals

pub is_number : (t : Token) (digits : List ℕ) (n : ℕ) → t ≡ token.Number digits → n ≡ value_of digits → n ≤ greatest → IsUnsigned t (literal.Int (pos n))
is_number t digits n e same fits = record {
  reading = plain (record { digits = digits; fits = omega arith });
  is = e;
  tree = ap (λ m. literal.Int (pos m)) (sym same);
}

pub is_too_large : (t : Token) (digits : List ℕ) → t ≡ token.Number digits → greatest < value_of digits → (r : UnsignedReading) → t ≡ token_of_unsigned r → ⊥
is_too_large t digits e large (plain n) g =
    let same : n.digits ≡ digits = cc in
    let fits : value_of digits ≤ greatest = rw same at n.fits in
    absurd (omega arith)
is_too_large t digits e large (truth true) g = cc
is_too_large t digits e large (truth false) g = cc
is_too_large t digits e large (quoted q) g = cc
is_too_large t digits e large null g = cc

pub is_quoted : (t : Token) (bytes : List ℕ) → t ≡ token.Text bytes → IsText bytes → IsUnsigned t (literal.Text bytes)
is_quoted t bytes e fits = record { reading = quoted (record { bytes = bytes; fits = fits }); is = e; tree = refl }

pub is_no_text : (t : Token) (bytes : List ℕ) → t ≡ token.Text bytes → ¬ IsText bytes → (r : UnsignedReading) → t ≡ token_of_unsigned r → ⊥
is_no_text t bytes e none (quoted q) g = let same : q.bytes ≡ bytes = cc in none (rw same at q.fits)
is_no_text t bytes e none (plain n) g = cc
is_no_text t bytes e none (truth true) g = cc
is_no_text t bytes e none (truth false) g = cc
is_no_text t bytes e none null g = cc

pub is_no_word : (t : Token) (w : Word) → t ≡ token.Word w → (w ≡ word.True → ⊥) → (w ≡ word.False → ⊥) → (w ≡ word.Null → ⊥) → (r : UnsignedReading) → t ≡ token_of_unsigned r → ⊥
is_no_word t w e no_true no_false no_null (truth true) g = no_true cc
is_no_word t w e no_true no_false no_null (truth false) g = no_false cc
is_no_word t w e no_true no_false no_null null g = no_null cc
is_no_word t w e no_true no_false no_null (plain n) g = cc
is_no_word t w e no_true no_false no_null (quoted q) g = cc

pub is_other : (t : Token) → ((digits : List ℕ) → t ≡ token.Number digits → ⊥) → ((bytes : List ℕ) → t ≡ token.Text bytes → ⊥) → ((w : Word) → t ≡ token.Word w → ⊥) → (r : UnsignedReading) → t ≡ token_of_unsigned r → ⊥
is_other t no_number no_text no_word (plain n) g = no_number n.digits g
is_other t no_number no_text no_word (truth true) g = no_word word.True g
is_other t no_number no_text no_word (truth false) g = no_word word.False g
is_other t no_number no_text no_word (quoted q) g = no_text q.bytes g
is_other t no_number no_text no_word null g = no_word word.Null g

-- ---- literals

unsigned_only : (r : LiteralReading) (t : Token) (after rest : List Token) → (t ≡ token.Symbol Minus → ⊥) → t ∷ after ≡ spell_literal r rest → after ≡ rest
unsigned_only (unsigned u) t after rest other g = cc
unsigned_only (negative n) t after rest other g = absurd (other cc)

pub unsigned_found : {before after : List Token} {v : Literal} (t : Token) → before ≡ t ∷ after → NotAt Minus before → IsUnsigned t v → Found spell_literal tree_of_literal EndsAnywhere before v after
unsigned_found {before} {after} {v} t e none h =
    let is = h.is in
    record {
      reading = unsigned h.reading;
      spelled = cc;
      tree_is = h.tree;
      only = λ r rest ends g. unsigned_only r t after rest (λ k. none after cc) (sym e ∙ g);
    }

pub no_unsigned : {before after : List Token} (t : Token) → before ≡ t ∷ after → NotAt Minus before → ((r : UnsignedReading) → t ≡ token_of_unsigned r → ⊥) → None spell_literal EndsAnywhere before
no_unsigned {before} {after} t e none other (unsigned u) rest ends g = other u cc
no_unsigned {before} {after} t e none other (negative n) rest ends g = none (spell_numeral deepest n rest) g

pub no_literal_at_end : {before : List Token} → before ≡ [] → None spell_literal EndsAnywhere before
no_literal_at_end {before} e (unsigned u) rest ends g = cc
no_literal_at_end {before} e (negative n) rest ends g = cc

pub no_symbol : (u : UnsignedReading) (s : Symbol) → token_of_unsigned u ≡ token.Symbol s → ⊥
no_symbol (plain n) s e = cc
no_symbol (truth true) s e = cc
no_symbol (truth false) s e = cc
no_symbol (quoted q) s e = cc
no_symbol null s e = cc

negative_only : (r : LiteralReading) (before between after rest : List Token) {n : ℕ} → before ≡ token.Symbol Minus ∷ between → Found (spell_numeral deepest) (λ m. value_of m.digits) EndsAnywhere between n after → before ≡ spell_literal r rest → after ≡ rest
negative_only (unsigned u) before between after rest e h g = absurd (no_symbol u Minus cc)
negative_only (negative m) before between after rest e h g = h.only m rest tt cc

pub negative_found : {before between after : List Token} {n : ℕ} → before ≡ token.Symbol Minus ∷ between → Found (spell_numeral deepest) (λ m. value_of m.digits) EndsAnywhere between n after → Found spell_literal tree_of_literal EndsAnywhere before (literal.Int (pos 0 -ℤ pos n)) after
negative_found {before} {between} {after} e h = record {
  reading = negative h.reading;
  spelled = e ∙ ap (λ ts. token.Symbol Minus ∷ ts) h.spelled;
  tree_is = ap (λ n. literal.Int (pos 0 -ℤ pos n)) h.tree_is;
  only = λ r rest ends g. negative_only r before between after rest e h g;
}

pub no_negative : {before between : List Token} → before ≡ token.Symbol Minus ∷ between → None (spell_numeral deepest) EndsAnywhere between → None spell_literal EndsAnywhere before
no_negative {before} {between} e none (unsigned u) rest ends g = no_symbol u Minus cc
no_negative {before} {between} e none (negative m) rest ends g = none m rest tt cc
