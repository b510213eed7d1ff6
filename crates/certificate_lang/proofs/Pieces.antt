-- Texts that are put together of pieces.
use Rattle.std.proofs.Common.{◌≡◌, ◌≢◌, ℕ, ◌+◌, ◌*◌, ◌-◌, ◌/◌, ◌%◌, ◌^◌, ◌<◌, ◌≤◌, true, List, [], ◌∷◌, ◌++◌, length, codes, decimal, refl, sym, ap, subst, arith}
use Rattle.std.specs.List.{AllByRecursion}
use Rattle.std.proofs.lemmas.Bool.{or_left}
use Rattle.std.proofs.lemmas.Bool.Decides.{nat_tests}
use Rattle.std.proofs.lemmas.Fmt.{decimal_by_steps}
use Rattle.std.proofs.lemmas.List.Elements.{recursion_from_All}
use Rattle.basic_types.specs.Name.{is_letter, is_digit, is_name_byte, IsName}
use Rattle.basic_types.specs.Signatures.{IsFreeName}
use Rattle.basic_types.specs.Tokens.{StopsBy}
use Rattle.basic_types.specs.declared.word.Word.TheVariants as word
use Rattle.texts.specs.Numerals.{value_from, value_of}
use Rattle.texts.specs.Pieces.{blank, name, reserved, number, symbol, AreTokens, StartsWithLetter, IsNotEmpty}
use Rattle.texts.specs.Symbols.{spelling, Begins}
use Rattle.texts.specs.declared.symbol.Symbol.{Symbol}
use Rattle.texts.specs.declared.symbol.Symbol.TheVariants as s
use Rattle.texts.specs.declared.token.Token.{Token}
use Rattle.texts.specs.declared.token.Token.TheVariants as token

abbrev pub ampersand : Token
ampersand = token.Symbol s.Ampersand

-- part of a line, with its tokens: it has no newline, and none of the tokens is `&`
pub record IsWritten (bytes : List ℕ) (tokens : List Token) : Type 0 where
  pub cut : AreTokens bytes tokens
  pub unbroken : AllByRecursion (λ b. b ≢ 10) bytes
  pub plain : AllByRecursion (λ t. t ≢ ampersand) tokens

pub nothing : IsWritten [] []
nothing = record { cut = record { pieces = []; cut = refl; tokens_are = refl }; unbroken = tt; plain = tt }

all_behind : (P : ℕ → Type 0) (xs ys : List ℕ) → AllByRecursion P xs → AllByRecursion P ys → AllByRecursion P (xs ++ ys)
all_behind P [] ys h k = k
all_behind P (x ∷ xs) ys h k = (h.0, all_behind P xs ys h.1 k)

all_so : (P Q : ℕ → Type 0) → ((x : ℕ) → P x → Q x) → (xs : List ℕ) → AllByRecursion P xs → AllByRecursion Q xs
all_so P Q so [] h = tt
all_so P Q so (x ∷ xs) h = (so x h.0, all_so P Q so xs h.1)

-- ---- blanks
pub blank_then : (rest : List ℕ) (tokens : List Token) → IsWritten rest tokens → IsWritten (32 ∷ rest) tokens
blank_then rest tokens w = record {
  cut = record { pieces = blank 32 ∷ w.cut.pieces; cut = (rest, (refl, refl), w.cut.cut); tokens_are = w.cut.tokens_are };
  unbroken = (λ e. omega arith, w.unbroken);
  plain = w.plain;
}

-- ---- names
starts : (letters : List ℕ) → IsName letters → StartsWithLetter letters
starts [] h = h
starts (b ∷ bs) h = h.0

all_name : (letters : List ℕ) → IsName letters → AllByRecursion (λ b. is_name_byte b ≡ true) letters
all_name [] h = tt
all_name (b ∷ bs) h = (or_left (is_letter b) (is_digit b) h.0, recursion_from_All (λ c. is_name_byte c ≡ true) bs h.1)

no_newline : (b : ℕ) → is_name_byte b ≡ true → b ≢ 10
no_newline b h e = let no : is_name_byte 10 ≡ true = subst (λ (c : ℕ). is_name_byte c ≡ true) e h in cc

pub name_then : (letters rest : List ℕ) (tokens : List Token) → IsFreeName letters → StopsBy is_name_byte rest → IsWritten rest tokens → IsWritten (letters ++ rest) (token.Name letters ∷ tokens)
name_then letters rest tokens free stops w =
    let each = all_name letters free.name in
    record {
      cut = record {
        pieces = name letters ∷ w.cut.pieces;
        cut = (rest, (starts letters free.name, free.free, record { split = refl; each = each; stops = stops }), w.cut.cut);
        tokens_are = ap (λ (ts : List Token). token.Name letters ∷ ts) w.cut.tokens_are;
      };
      unbroken = all_behind (λ b. b ≢ 10) letters rest (all_so (λ b. is_name_byte b ≡ true) (λ b. b ≢ 10) no_newline letters each) w.unbroken;
      plain = (λ e. cc, w.plain);
    }

pub const_then : (rest : List ℕ) (tokens : List Token) → IsWritten rest tokens → IsWritten (codes "const " ++ rest) (token.Word word.Const ∷ tokens)
const_then rest tokens w = record {
  cut = record {
    pieces = reserved word.Const ∷ blank 32 ∷ w.cut.pieces;
    cut = (32 ∷ rest, record { split = refl; each = (refl, (refl, (refl, (refl, (refl, tt))))); stops = refl }, (rest, (refl, refl), w.cut.cut));
    tokens_are = ap (λ (ts : List Token). token.Word word.Const ∷ ts) w.cut.tokens_are;
  };
  unbroken = (λ e. omega arith, (λ e. omega arith, (λ e. omega arith, (λ e. omega arith, (λ e. omega arith, (λ e. omega arith, w.unbroken))))));
  plain = (λ e. cc, w.plain);
}

-- ---- symbols
-- no symbol of two bytes begins with the byte
pub record BeginsOne (b : ℕ) : Type 0 where
  pub equal : b ≢ 61
  pub not : b ≢ 33
  pub less : b ≢ 60
  pub greater : b ≢ 62
  pub and : b ≢ 38
  pub or : b ≢ 124
  pub minus : b ≢ 45
  pub newline : b ≢ 10

first_is : (b c : ℕ) (bs cs rest : List ℕ) → b ∷ bs ≡ c ∷ cs ++ rest → b ≡ c
first_is b c bs cs rest e = cc

one_byte : (b : ℕ) (rest : List ℕ) → BeginsOne b → (other : Symbol) → Begins (spelling other) (b ∷ rest) → length (spelling other) ≤ 1
one_byte b rest one s.Equal h = absurd (one.equal (first_is b 61 rest (codes "=") h.0 h.1))
one_byte b rest one s.Unequal h = absurd (one.not (first_is b 33 rest (codes "=") h.0 h.1))
one_byte b rest one s.AtMost h = absurd (one.less (first_is b 60 rest (codes "=") h.0 h.1))
one_byte b rest one s.AtLeast h = absurd (one.greater (first_is b 62 rest (codes "=") h.0 h.1))
one_byte b rest one s.And h = absurd (one.and (first_is b 38 rest (codes "&") h.0 h.1))
one_byte b rest one s.Or h = absurd (one.or (first_is b 124 rest (codes "|") h.0 h.1))
one_byte b rest one s.Arrow h = absurd (one.minus (first_is b 45 rest (codes ">") h.0 h.1))
one_byte b rest one _ h = omega arith

symbol_then : (x : Symbol) (b : ℕ) (rest : List ℕ) (tokens : List Token) → spelling x ≡ b ∷ [] → BeginsOne b → x ≢ s.Ampersand → IsWritten rest tokens → IsWritten (b ∷ rest) (token.Symbol x ∷ tokens)
symbol_then x b rest tokens spelled one other w = record {
  cut = record {
    pieces = symbol x ∷ w.cut.pieces;
    cut = (
      rest,
      record {
        split = sym (ap (λ (front : List ℕ). front ++ rest) spelled);
        longest = λ y h. subst (λ (front : List ℕ). length (spelling y) ≤ length front) (sym spelled) (one_byte b rest one y h);
      },
      w.cut.cut,
    );
    tokens_are = ap (λ (ts : List Token). token.Symbol x ∷ ts) w.cut.tokens_are;
  };
  unbroken = (one.newline, w.unbroken);
  plain = (λ e. let same : x ≡ s.Ampersand = cc in other same, w.plain);
}

pub tilde_then : (rest : List ℕ) (tokens : List Token) → IsWritten rest tokens → IsWritten (126 ∷ rest) (token.Symbol s.Tilde ∷ tokens)
tilde_then rest tokens w =
    symbol_then s.Tilde 126 rest tokens refl (record { equal = λ e. omega arith; not = λ e. omega arith; less = λ e. omega arith; greater = λ e. omega arith; and = λ e. omega arith; or = λ e. omega arith; minus = λ e. omega arith; newline = λ e. omega arith }) (λ e. cc) w

pub dot_then : (rest : List ℕ) (tokens : List Token) → IsWritten rest tokens → IsWritten (46 ∷ rest) (token.Symbol s.Dot ∷ tokens)
dot_then rest tokens w =
    symbol_then s.Dot 46 rest tokens refl (record { equal = λ e. omega arith; not = λ e. omega arith; less = λ e. omega arith; greater = λ e. omega arith; and = λ e. omega arith; or = λ e. omega arith; minus = λ e. omega arith; newline = λ e. omega arith }) (λ e. cc) w

pub open_then : (rest : List ℕ) (tokens : List Token) → IsWritten rest tokens → IsWritten (40 ∷ rest) (token.Symbol s.Open ∷ tokens)
open_then rest tokens w =
    symbol_then s.Open 40 rest tokens refl (record { equal = λ e. omega arith; not = λ e. omega arith; less = λ e. omega arith; greater = λ e. omega arith; and = λ e. omega arith; or = λ e. omega arith; minus = λ e. omega arith; newline = λ e. omega arith }) (λ e. cc) w

pub close_then : (rest : List ℕ) (tokens : List Token) → IsWritten rest tokens → IsWritten (41 ∷ rest) (token.Symbol s.Close ∷ tokens)
close_then rest tokens w =
    symbol_then s.Close 41 rest tokens refl (record { equal = λ e. omega arith; not = λ e. omega arith; less = λ e. omega arith; greater = λ e. omega arith; and = λ e. omega arith; or = λ e. omega arith; minus = λ e. omega arith; newline = λ e. omega arith }) (λ e. cc) w

pub comma_then : (rest : List ℕ) (tokens : List Token) → IsWritten rest tokens → IsWritten (44 ∷ rest) (token.Symbol s.Comma ∷ tokens)
comma_then rest tokens w =
    symbol_then s.Comma 44 rest tokens refl (record { equal = λ e. omega arith; not = λ e. omega arith; less = λ e. omega arith; greater = λ e. omega arith; and = λ e. omega arith; or = λ e. omega arith; minus = λ e. omega arith; newline = λ e. omega arith }) (λ e. cc) w

pub star_then : (rest : List ℕ) (tokens : List Token) → IsWritten rest tokens → IsWritten (42 ∷ rest) (token.Symbol s.Star ∷ tokens)
star_then rest tokens w =
    symbol_then s.Star 42 rest tokens refl (record { equal = λ e. omega arith; not = λ e. omega arith; less = λ e. omega arith; greater = λ e. omega arith; and = λ e. omega arith; or = λ e. omega arith; minus = λ e. omega arith; newline = λ e. omega arith }) (λ e. cc) w

-- ---- numbers
-- the digits are those of the number
pub record AreDigits (n : ℕ) (digits : List ℕ) : Type 0 where
  pub some : IsNotEmpty digits
  pub each : AllByRecursion (λ b. is_digit b ≡ true) digits
  pub value : value_of digits ≡ n

value_behind : (m : ℕ) (ds : List ℕ) (d : ℕ) → value_from m (ds ++ d ∷ []) ≡ value_from m ds * 10 + (d - 48)
value_behind m [] d = refl
value_behind m (e ∷ ds) d = value_behind (m * 10 + (e - 48)) ds d

not_empty_behind : (ds : List ℕ) (d : ℕ) → IsNotEmpty (ds ++ d ∷ [])
not_empty_behind [] d = tt
not_empty_behind (e ∷ ds) d = tt

digit_of : (k : ℕ) → k < 10 → is_digit (48 + k) ≡ true
digit_of k h = grind (arith, nat_tests)

one_digit : (n : ℕ) → n < 10 → AreDigits n ((48 + n) ∷ [])
one_digit n h = record { some = tt; each = (digit_of n h, tt); value = omega arith }

more_digits : (n : ℕ) (ds : List ℕ) → 10 ≤ n → AreDigits (n / 10) ds → AreDigits n (ds ++ ((48 + n % 10) ∷ []))
more_digits n ds h d =
    let low : n % 10 < 10 = omega arith in
    let value = value_behind 0 ds (48 + n % 10) in
    let front = d.value in
    record {
      some = not_empty_behind ds (48 + n % 10);
      each = all_behind (λ b. is_digit b ≡ true) ds ((48 + n % 10) ∷ []) d.each (digit_of (n % 10) low, tt);
      value = omega arith;
    }

pub are_digits : (n : ℕ) → n < 2 ^ 64 → AreDigits n (decimal n)
are_digits n h = decimal_by_steps AreDigits one_digit more_digits n h

digit_no_newline : (b : ℕ) → is_digit b ≡ true → b ≢ 10
digit_no_newline b h e = let no : is_digit 10 ≡ true = subst (λ (c : ℕ). is_digit c ≡ true) e h in cc

pub digits_then : (digits rest : List ℕ) (tokens : List Token) → IsNotEmpty digits → AllByRecursion (λ b. is_digit b ≡ true) digits → StopsBy is_digit rest → IsWritten rest tokens → IsWritten (digits ++ rest) (token.Number digits ∷ tokens)
digits_then digits rest tokens some each stops w = record {
  cut = record {
    pieces = number digits ∷ w.cut.pieces;
    cut = (rest, (some, record { split = refl; each = each; stops = stops }), w.cut.cut);
    tokens_are = ap (λ (ts : List Token). token.Number digits ∷ ts) w.cut.tokens_are;
  };
  unbroken = all_behind (λ b. b ≢ 10) digits rest (all_so (λ b. is_digit b ≡ true) (λ b. b ≢ 10) digit_no_newline digits each) w.unbroken;
  plain = (λ e. cc, w.plain);
}
