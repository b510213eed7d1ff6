-- What is at the front of a text, by its first byte.
use Rattle.std.{proofs.Common.{◌≡◌, ℕ, Bool, true, false, nat_eq, List, [], ◌∷◌, ◌++◌, length, inl, inr, Option, Some, None, refl, sym, ◌∙◌, ap, arith}, proofs.lemmas.Bool.Decides.{nat_tests}, proofs.lemmas.Bool.{eqb-true}, specs.List.{AllByRecursion}, proofs.lemmas.List.Elements.{All-from_recursion}}
use Rattle.texts.specs.{declared.bytes.ByteClass.{ByteClass}, declared.bytes.ByteClass.TheVariants.{Blank, Slash, Letter, Digit, Quote, Other}, declared.symbol.Symbol.{Symbol}, code.Bytes.{class_by, class_of}, Bytes.{belongs, IsRun}, declared.token.Token.{Token}, Symbols.{spelling, IsSymbolAt, Begins}, Pieces.{Piece, blank, comment, name, reserved, number, text, symbol, IsFirstPiece, IsComment, StartsWithLetter, IsNotEmpty}, code.Splitting.{IsWordOrName, Cuts}}
use Rattle.texts.specs.declared.bytes.Run.TheVariants as run
use Rattle.texts.specs.declared.symbol.Symbol.TheVariants as s
use Rattle.texts.specs.declared.token.Token.TheVariants as token
use Rattle.basic_types.specs.{Tokens.{is_blank}, Name.{is_letter, is_digit, is_name_byte, IsName}, declared.word.Word.{Word}, Words.{word_spelling}}
use Rattle.basic_types.specs.declared.word.Word.TheVariants as w

abbrev class_at : List ℕ → Option ByteClass
class_at [] = None
class_at (b ∷ bs) = Some (class_of b)

abbrev class_of_piece : Piece → ByteClass
class_of_piece (blank b) = Blank
class_of_piece (comment line) = Slash
class_of_piece (name letters) = Letter
class_of_piece (reserved word) = Letter
class_of_piece (number digits) = Digit
class_of_piece (text inner) = Quote
class_of_piece (symbol s) = Other

pub letter_class : (b : ℕ) → is_letter b ≡ true → class_of b ≡ Letter
letter_class b h =
    let p : is_blank b ≡ false = grind (arith, nat_tests) in
    let q : nat_eq b 47 ≡ false = grind (arith, nat_tests) in
    rw (p, q, h)

pub digit_class : (b : ℕ) → is_digit b ≡ true → class_of b ≡ Digit
digit_class b h =
    let p : is_blank b ≡ false = grind (arith, nat_tests) in
    let q : nat_eq b 47 ≡ false = grind (arith, nat_tests) in
    let r : is_letter b ≡ false = grind (arith, nat_tests) in
    rw (p, q, r, h)

blank_class : (b : ℕ) → is_blank b ≡ true → class_of b ≡ Blank
blank_class b h = rw h

symbol_class : (s : Symbol) (bytes rest : List ℕ) → bytes ≡ spelling s ++ rest → class_at bytes ≡ Some Other
symbol_class s.Equal bytes rest e = ap class_at e
symbol_class _ bytes rest e = ap class_at e

word_class : (word : Word) (bytes rest : List ℕ) → bytes ≡ word_spelling word ++ rest → class_at bytes ≡ Some Letter
word_class w.Class bytes rest e = ap class_at e
word_class _ bytes rest e = ap class_at e

-- a run that isn't empty begins with the first byte
pub class_at_front : (p : Piece) (bytes rest : List ℕ) → IsFirstPiece p bytes rest → class_at bytes ≡ Some (class_of_piece p)
class_at_front (blank b) bytes rest h = ap class_at h.1 ∙ ap Some (blank_class b h.0)
class_at_front (comment line) bytes rest h = ap class_at h.1
class_at_front (name []) bytes rest h = absurd h.0
class_at_front (name (b ∷ bs)) bytes rest h = ap class_at (h.2).split ∙ ap Some (letter_class b h.0)
class_at_front (reserved word) bytes rest h = word_class word bytes rest h.split
class_at_front (number []) bytes rest h = absurd h.0
class_at_front (number (b ∷ bs)) bytes rest h = ap class_at (h.1).split ∙ ap Some (digit_class b (h.1).each.0)
class_at_front (text inner) bytes rest h = ap class_at h.1
class_at_front (symbol s) bytes rest h = symbol_class s bytes rest h.split

letter_if : (x y z w v : Bool) → class_by x y z w v ≡ Letter → z ≡ true
letter_if true y z w v h = cc
letter_if false true z w v h = cc
letter_if false false true w v h = refl
letter_if false false false true v h = cc
letter_if false false false false true h = cc
letter_if false false false false false h = cc

digit_if : (x y z w v : Bool) → class_by x y z w v ≡ Digit → w ≡ true
digit_if true y z w v h = cc
digit_if false true z w v h = cc
digit_if false false true w v h = cc
digit_if false false false true v h = refl
digit_if false false false false true h = cc
digit_if false false false false false h = cc

blank_if : (x y z w v : Bool) → class_by x y z w v ≡ Blank → x ≡ true
blank_if true y z w v h = refl
blank_if false true z w v h = cc
blank_if false false true w v h = cc
blank_if false false false true v h = cc
blank_if false false false false true h = cc
blank_if false false false false false h = cc

slash_if : (x y z w v : Bool) → class_by x y z w v ≡ Slash → y ≡ true
slash_if true y z w v h = cc
slash_if false true z w v h = refl
slash_if false false true w v h = cc
slash_if false false false true v h = cc
slash_if false false false false true h = cc
slash_if false false false false false h = cc

quote_if : (x y z w v : Bool) → class_by x y z w v ≡ Quote → v ≡ true
quote_if true y z w v h = cc
quote_if false true z w v h = cc
quote_if false false true w v h = cc
quote_if false false false true v h = cc
quote_if false false false false true h = refl
quote_if false false false false false h = cc

pub named : (letters : List ℕ) → StartsWithLetter letters → AllByRecursion (λ b. belongs run.Name b ≡ true) letters → IsName letters
named [] first each = absurd first
named (b ∷ bs) first each = (first, All-from_recursion (λ c. is_name_byte c ≡ true) bs each.1)

module _ (bytes : List ℕ) (b : ℕ) (after : List ℕ) (at : bytes ≡ b ∷ after) where
  pub blank_cut : class_of b ≡ Blank → Cuts bytes None after
  blank_cut h = record { piece = blank b; front = (blank_if (is_blank b) (nat_eq b 47) (is_letter b) (is_digit b) (nat_eq b 34) h, at); token_is = refl }

  pub is_slash : class_of b ≡ Slash → b ≡ 47
  is_slash h = let k : nat_eq b 47 ≡ true = slash_if (is_blank b) (nat_eq b 47) (is_letter b) (is_digit b) (nat_eq b 34) h in eqb-true b 47 k

  pub is_quote : class_of b ≡ Quote → b ≡ 34
  is_quote h = let k : nat_eq b 34 ≡ true = quote_if (is_blank b) (nat_eq b 47) (is_letter b) (is_digit b) (nat_eq b 34) h in eqb-true b 34 k

  pub comment_cut : (rest : List ℕ) → class_of b ≡ Slash → IsComment after rest → Cuts bytes None rest
  comment_cut rest h c = let k = is_slash h in let e = c.2 in record { piece = comment c.1; front = (c.0, cc, c.3); token_is = refl }

  pub text_cut : (inner rest : List ℕ) → class_of b ≡ Quote → IsRun run.Text after inner (34 ∷ rest) → Cuts bytes (Some (token.Text inner)) rest
  text_cut inner rest h c = let k = is_quote h in record { piece = text inner; front = (after, cc, c); token_is = refl }

  letters_first : (letters rest : List ℕ) → is_letter b ≡ true → IsRun run.Name bytes letters rest → StartsWithLetter letters
  letters_first [] [] h r = let e = r.split in cc
  letters_first [] (x ∷ xs) h r = let e = r.split in let k : x ≡ b = cc in let m = rw (k, h) at r.stops in cc
  letters_first (x ∷ xs) rest h r = let e = r.split in let k : x ≡ b = cc in rw k h

  pub are_name : (letters rest : List ℕ) → class_of b ≡ Letter → IsRun run.Name bytes letters rest → IsName letters
  are_name letters rest h r = named letters (letters_first letters rest (letter_if (is_blank b) (nat_eq b 47) (is_letter b) (is_digit b) (nat_eq b 34) h) r) r.each

  pub letters_cut : (t : Token) (letters rest : List ℕ) → class_of b ≡ Letter → IsRun run.Name bytes letters rest → IsWordOrName t letters → Cuts bytes (Some t) rest
  letters_cut t letters rest h r (inl a) = let e = a.2 in record { piece = reserved a.0; front = rw (← e) r; token_is = ap Some (sym a.1) }
  letters_cut t letters rest h r (inr a) = record { piece = name letters; front = (letters_first letters rest (letter_if (is_blank b) (nat_eq b 47) (is_letter b) (is_digit b) (nat_eq b 34) h) r, a.1, r); token_is = ap Some (sym a.0) }

  digits_some : (digits rest : List ℕ) → is_digit b ≡ true → IsRun run.Number bytes digits rest → IsNotEmpty digits
  digits_some [] [] h r = let e = r.split in cc
  digits_some [] (x ∷ xs) h r = let e = r.split in let k : x ≡ b = cc in let m = rw (k, h) at r.stops in cc
  digits_some (x ∷ xs) rest h r = tt

  pub number_cut : (digits rest : List ℕ) → class_of b ≡ Digit → IsRun run.Number bytes digits rest → Cuts bytes (Some (token.Number digits)) rest
  number_cut digits rest h r = record { piece = number digits; front = (digits_some digits rest (digit_if (is_blank b) (nat_eq b 47) (is_letter b) (is_digit b) (nat_eq b 34) h) r, r); token_is = refl }

  class_here : {k : ByteClass} → class_of b ≡ k → class_at bytes ≡ Some k
  class_here h = ap class_at at ∙ ap Some h

  pub no_comment : class_of b ≡ Slash → ((rest : List ℕ) → IsComment after rest → ⊥) → (p : Piece) (rest : List ℕ) → IsFirstPiece p bytes rest → ⊥
  no_comment h none (comment line) rest f = let k = f.1 in none rest (f.0, line, cc, f.2)
  no_comment h none p rest f = let k = class_here h in let m = class_at_front p bytes rest f in cc

  pub no_text : class_of b ≡ Quote → ((inner rest : List ℕ) → IsRun run.Text after inner (34 ∷ rest) → ⊥) → (p : Piece) (rest : List ℕ) → IsFirstPiece p bytes rest → ⊥
  no_text h none (text inner) rest f = let k = f.1 in let e : f.0 ≡ after = cc in none inner rest (rw e at f.2)
  no_text h none p rest f = let k = class_here h in let m = class_at_front p bytes rest f in cc

  pub no_other : class_of b ≡ Other → ((s : Symbol) → Begins (spelling s) bytes → ⊥) → (p : Piece) (rest : List ℕ) → IsFirstPiece p bytes rest → ⊥
  no_other h none (symbol s) rest f = none s (rest, f.split)
  no_other h none p rest f = let k = class_here h in let m = class_at_front p bytes rest f in cc

pub symbol_cut : (bytes : List ℕ) (s : Symbol) (rest : List ℕ) → IsSymbolAt s bytes rest → Cuts bytes (Some (token.Symbol s)) rest
symbol_cut bytes s rest h = record { piece = symbol s; front = h; token_is = refl }

pub no_front_at_end : (bytes : List ℕ) → bytes ≡ [] → (p : Piece) (rest : List ℕ) → IsFirstPiece p bytes rest → ⊥
no_front_at_end bytes e p rest f = let m = class_at_front p bytes rest f in let k : class_at bytes ≡ None = ap class_at e in cc

pub empty : (bytes : List ℕ) → length bytes ≡ 0 → bytes ≡ []
empty [] e = refl
empty (b ∷ bs) e = absurd (omega arith)
