-- A text that is scanned as a signature is cut into that signature's tokens.
use Rattle.std.{proofs.Common.{◌≡◌, ◌⊎◌, ◌∙◌, ℕ, zero, suc, ◌≤◌, Bool, true, false, if◌then◌else◌, nat_eq, List, [], ◌∷◌, ◌++◌, length, map, refl, sym, ap, inl, inr, arith}, proofs.lemmas.Bool.{eqb-true}, proofs.lemmas.List.{length-append}, specs.List.{AllByRecursion, AllZip}, specs.Prelude.{◌≢◌}}
use Rattle.basic_types.specs.{Name.{is_name_byte}, Signatures.{IsFreeName, IsTypeOf, Normal}, Tokens.{is_blank, mark_of}, Words.{word_spelling}, declared.normal.ConstPlace.{ConstPlace}, declared.normal.ConstPlace.TheVariants.{Nowhere, Before, After}, declared.normal.TypeEnding.{TypeEnding}, declared.normal.TypeEnding.TheVariants.{Bare, Reference, Pointer}, declared.qtype.QType.{QType}, declared.mark.Mark.{Mark}}
use Rattle.basic_types.specs.Signatures as scanned
use Rattle.basic_types.specs.Tokens as scanner
use Rattle.basic_types.specs.declared.mark.Mark.TheVariants as mark
use Rattle.basic_types.specs.declared.word.Word.TheVariants as reserved_word
use Rattle.texts.{specs.Bytes.{IsRun}, specs.Pieces.{AreTokens, Piece, IsFirstPiece, StartsWithLetter, token_of, before}, specs.Symbols.{spelling}, specs.declared.symbol.Symbol.{Symbol}, specs.declared.token.Token.{Token}, proofs.Table.{NoneBegins, doubles, is_longest_single}}
use Rattle.token_reading.{specs.code.Cursor.{NotAt}, specs.Lists.{spell_others, spell_listed}, specs.Signatures.{TypeReading, spelled_type, spell_ending, spell_named, spell_type, sig, spell_sig}, specs.SignatureTexts.{IsNormalFormOf, NormalFormsAreInTokens}, proofs.SignatureTexts.{scan_of, IsSigToken, blank_next, word_next, as_scanned, scan_list, sig_ending, sig_named}}
use Rattle.texts.specs.Pieces as piece
use Rattle.texts.specs.declared.bytes.Run.TheVariants as run
use Rattle.texts.specs.declared.symbol.Symbol.TheVariants as s
use Rattle.texts.specs.declared.token.Token.TheVariants as token

sure : (x : Bool) → (x ≡ true) ⊎ (x ≡ false)
sure true = inl refl
sure false = inr refl

-- ---- the longest word at the front

record WordAt (bytes : List ℕ) : Type 0 where
  letters : List ℕ
  rest : List ℕ
  is_run : IsRun run.Name bytes letters rest

longer : (b : ℕ) (bytes : List ℕ) → (w : WordAt bytes) → is_name_byte b ≡ true → IsRun run.Name (b ∷ bytes) (b ∷ w.letters) w.rest
longer b bytes w h = record { split = ap (λ bs. b ∷ bs) w.is_run.split; each = (h, w.is_run.each); stops = w.is_run.stops }

one_more : (b : ℕ) (bytes : List ℕ) → WordAt bytes → (is_name_byte b ≡ true) ⊎ (is_name_byte b ≡ false) → WordAt (b ∷ bytes)
one_more b bytes w (inl h) = record { letters = b ∷ w.letters; rest = w.rest; is_run = longer b bytes w h }
one_more b bytes w (inr h) = record { letters = []; rest = b ∷ bytes; is_run = record { split = refl; each = tt; stops = h } }

word_at : (bytes : List ℕ) → WordAt bytes
word_at [] = record { letters = []; rest = []; is_run = record { split = refl; each = tt; stops = tt } }
word_at (b ∷ bytes) = one_more b bytes (word_at bytes) (sure (is_name_byte b))

no_longer : (bytes : List ℕ) (w : WordAt bytes) → length w.rest ≤ length bytes
no_longer bytes w = let e = ap length w.is_run.split in omega (arith, length-append w.letters w.rest)

-- ---- marks by their bytes

abbrev IsChosen : (x y z w v : Bool) → Mark → Type 0
IsChosen x y z w v mark.Open = x ≡ true
IsChosen x y z w v mark.Close = y ≡ true
IsChosen x y z w v mark.Comma = z ≡ true
IsChosen x y z w v mark.Ampersand = w ≡ true
IsChosen x y z w v mark.Star = v ≡ true
IsChosen x y z w v mark.Other = Unit {0}

chosen : (x y z w v : Bool) → IsChosen x y z w v (if x then mark.Open else (if y then mark.Close else (if z then mark.Comma else (if w then mark.Ampersand else (if v then mark.Star else mark.Other)))))
chosen true y z w v = refl
chosen false true z w v = refl
chosen false false true w v = refl
chosen false false false true v = refl
chosen false false false false true = refl
chosen false false false false false = tt

mark_byte : (b : ℕ) (m : Mark) → mark_of b ≡ m → IsChosen (nat_eq b 40) (nat_eq b 41) (nat_eq b 44) (nat_eq b 38) (nat_eq b 42) m
mark_byte b m e = rw e at (chosen (nat_eq b 40) (nat_eq b 41) (nat_eq b 44) (nat_eq b 38) (nat_eq b 42))

-- the byte begins no symbol of two bytes but `&&`
record BeginsNoOther (b : ℕ) : Type 0 where
  equal : b ≢ 61
  unequal : b ≢ 33
  less : b ≢ 60
  greater : b ≢ 62
  bar : b ≢ 124
  minus : b ≢ 45

lone : (b : ℕ) (bytes : List ℕ) → BeginsNoOther b → ((rest : List ℕ) → b ∷ bytes ≡ 38 ∷ 38 ∷ rest → ⊥) → NoneBegins doubles (b ∷ bytes)
lone b bytes other alone = (
  λ h. let e = h.1 in other.equal cc,
  (
    λ h. let e = h.1 in other.unequal cc,
    (
      λ h. let e = h.1 in other.less cc,
      (
        λ h. let e = h.1 in other.greater cc,
        (
          λ h. alone h.0 h.1,
          (
            λ h. let e = h.1 in other.bar cc,
            (λ h. let e = h.1 in other.minus cc, tt),
          ),
        ),
      ),
    ),
  ),
)

opens_no_other : BeginsNoOther 40
opens_no_other = record { equal = λ e. cc; unequal = λ e. cc; less = λ e. cc; greater = λ e. cc; bar = λ e. cc; minus = λ e. cc }

closes_no_other : BeginsNoOther 41
closes_no_other = record { equal = λ e. cc; unequal = λ e. cc; less = λ e. cc; greater = λ e. cc; bar = λ e. cc; minus = λ e. cc }

comma_no_other : BeginsNoOther 44
comma_no_other = record { equal = λ e. cc; unequal = λ e. cc; less = λ e. cc; greater = λ e. cc; bar = λ e. cc; minus = λ e. cc }

ampersand_no_other : BeginsNoOther 38
ampersand_no_other = record { equal = λ e. cc; unequal = λ e. cc; less = λ e. cc; greater = λ e. cc; bar = λ e. cc; minus = λ e. cc }

star_no_other : BeginsNoOther 42
star_no_other = record { equal = λ e. cc; unequal = λ e. cc; less = λ e. cc; greater = λ e. cc; bar = λ e. cc; minus = λ e. cc }

-- ---- the tokens of a signature's text

-- no `&` stands right behind another
abbrev NoTwins : List Token → Type 0
NoTwins [] = Unit {0}
NoTwins (t ∷ ts) = (t ≡ token.Symbol s.Ampersand → NotAt s.Ampersand ts) × NoTwins ts

record AreSigTokens (tokens : List Token) : Type 0 where
  each : AllByRecursion IsSigToken tokens
  apart : NoTwins tokens

no_ampersand : (tokens : List Token) (x : List scanner.Token) → AllByRecursion IsSigToken tokens → NotAt s.Ampersand tokens → map scan_of tokens ≡ scanner.mark mark.Ampersand ∷ x → ⊥
no_ampersand [] x each none e = cc
no_ampersand (token.Name n ∷ ts) x each none e = cc
no_ampersand (token.Word reserved_word.Const ∷ ts) x each none e = cc
no_ampersand (token.Symbol s.Ampersand ∷ ts) x each none e = none ts refl
no_ampersand (token.Symbol s.Open ∷ ts) x each none e = cc
no_ampersand (token.Symbol s.Close ∷ ts) x each none e = cc
no_ampersand (token.Symbol s.Comma ∷ ts) x each none e = cc
no_ampersand (token.Symbol s.Star ∷ ts) x each none e = cc
no_ampersand (_ ∷ ts) x each none e = absurd each.0

starts_with_letter : (letters : List ℕ) → IsFreeName letters → StartsWithLetter letters
starts_with_letter [] free = absurd free.name
starts_with_letter (b ∷ bs) free = free.name.0

prepended : (p : Piece) (bytes rest : List ℕ) (tokens : List Token) → IsFirstPiece p bytes rest → AreTokens rest tokens → AreTokens bytes (before (token_of p) tokens)
prepended p bytes rest tokens front cut = record { pieces = p ∷ cut.pieces; cut = (rest, front, cut.cut); tokens_are = ap (before (token_of p)) cut.tokens_are }

-- texts of at most so many bytes are cut as they are scanned
abbrev AreCutUpTo : ℕ → Type 0
AreCutUpTo n = (bytes : List ℕ) (tokens : List Token) → length bytes ≤ n → scanner.tokens_of bytes ≡ map scan_of tokens → AllByRecursion IsSigToken tokens → NoTwins tokens → AreTokens bytes tokens

module _ (n : ℕ) (shorter : AreCutUpTo n) (b : ℕ) (bytes : List ℕ) (fits : length bytes ≤ n) where
  cut_blank : is_blank b ≡ true → (tokens : List Token) → scanner.tokens_of (b ∷ bytes) ≡ map scan_of tokens → AllByRecursion IsSigToken tokens → NoTwins tokens → AreTokens (b ∷ bytes) tokens
  cut_blank h tokens e each apart = prepended (piece.blank b) (b ∷ bytes) bytes tokens (h, refl) (shorter bytes tokens fits (sym (blank_next b bytes h) ∙ e) each apart)

  module _ (letters rest : List ℕ) (short : length rest ≤ n) (r : IsRun run.Name (b ∷ bytes) letters rest) where
    cut_word : (tokens : List Token) → scanner.word letters ∷ scanner.tokens_of rest ≡ map scan_of tokens → AllByRecursion IsSigToken tokens → NoTwins tokens → AreTokens (b ∷ bytes) tokens
    cut_word [] e each apart = cc
    cut_word (token.Name x ∷ ts) e each apart =
        let same : letters ≡ x = cc in
        prepended (piece.name x) (b ∷ bytes) rest ts (starts_with_letter x each.0, each.0.free, rw same at r) (shorter rest ts short (cc) each.1 apart.1)
    cut_word (token.Word reserved_word.Const ∷ ts) e each apart =
        let same : letters ≡ word_spelling reserved_word.Const = cc in
        prepended (piece.reserved reserved_word.Const) (b ∷ bytes) rest ts (rw same at r) (shorter rest ts short (cc) each.1 apart.1)
    cut_word (token.Symbol s.Open ∷ ts) e each apart = cc
    cut_word (token.Symbol s.Close ∷ ts) e each apart = cc
    cut_word (token.Symbol s.Comma ∷ ts) e each apart = cc
    cut_word (token.Symbol s.Ampersand ∷ ts) e each apart = cc
    cut_word (token.Symbol s.Star ∷ ts) e each apart = cc
    cut_word (_ ∷ ts) e each apart = absurd each.0

  -- a symbol of one byte, which no symbol of two bytes begins with
  cut_single : (x : Symbol) (k : ℕ) → spelling x ≡ k ∷ [] → BeginsNoOther k → (k ≡ 38 → ⊥) → b ≡ k → (ts : List Token) → scanner.tokens_of bytes ≡ map scan_of ts → AllByRecursion IsSigToken ts → NoTwins ts → AreTokens (b ∷ bytes) (token.Symbol x ∷ ts)
  cut_single x k spelled other alone is ts more each apart =
      let at : b ∷ bytes ≡ spelling x ++ bytes = rw (is, spelled) refl in
      prepended (piece.symbol x) (b ∷ bytes) bytes ts (is_longest_single x (b ∷ bytes) bytes (lone b bytes (rw is other) (λ rest e. alone (cc))) at) (shorter bytes ts fits more each apart)

  cut_ampersand : mark_of b ≡ mark.Ampersand → (ts : List Token) → scanner.tokens_of bytes ≡ map scan_of ts → NotAt s.Ampersand ts → AllByRecursion IsSigToken ts → NoTwins ts → AreTokens (b ∷ bytes) (token.Symbol s.Ampersand ∷ ts)
  cut_ampersand marked ts more none each apart =
      let is : b ≡ 38 = eqb-true b 38 (mark_byte b mark.Ampersand marked) in
      let alone : (rest : List ℕ) → b ∷ bytes ≡ 38 ∷ 38 ∷ rest → ⊥ =
      λ rest e. let twin : bytes ≡ 38 ∷ rest = cc in no_ampersand ts (scanner.tokens_of rest) each none (sym more ∙ ap scanner.tokens_of twin) in
      prepended (piece.symbol s.Ampersand) (b ∷ bytes) bytes ts (is_longest_single s.Ampersand (b ∷ bytes) bytes (lone b bytes (rw is ampersand_no_other) alone) (ap (λ x. x ∷ bytes) is)) (shorter bytes ts fits more each apart)

  cut_open : mark_of b ≡ mark.Open → (ts : List Token) → scanner.tokens_of bytes ≡ map scan_of ts → AllByRecursion IsSigToken ts → NoTwins ts → AreTokens (b ∷ bytes) (token.Symbol s.Open ∷ ts)
  cut_open is ts more each apart = cut_single s.Open 40 refl opens_no_other (λ e. cc) (eqb-true b 40 (mark_byte b mark.Open is)) ts more each apart

  cut_close : mark_of b ≡ mark.Close → (ts : List Token) → scanner.tokens_of bytes ≡ map scan_of ts → AllByRecursion IsSigToken ts → NoTwins ts → AreTokens (b ∷ bytes) (token.Symbol s.Close ∷ ts)
  cut_close is ts more each apart = cut_single s.Close 41 refl closes_no_other (λ e. cc) (eqb-true b 41 (mark_byte b mark.Close is)) ts more each apart

  cut_comma : mark_of b ≡ mark.Comma → (ts : List Token) → scanner.tokens_of bytes ≡ map scan_of ts → AllByRecursion IsSigToken ts → NoTwins ts → AreTokens (b ∷ bytes) (token.Symbol s.Comma ∷ ts)
  cut_comma is ts more each apart = cut_single s.Comma 44 refl comma_no_other (λ e. cc) (eqb-true b 44 (mark_byte b mark.Comma is)) ts more each apart

  cut_star : mark_of b ≡ mark.Star → (ts : List Token) → scanner.tokens_of bytes ≡ map scan_of ts → AllByRecursion IsSigToken ts → NoTwins ts → AreTokens (b ∷ bytes) (token.Symbol s.Star ∷ ts)
  cut_star is ts more each apart = cut_single s.Star 42 refl star_no_other (λ e. cc) (eqb-true b 42 (mark_byte b mark.Star is)) ts more each apart

  cut_mark : (m : Mark) → mark_of b ≡ m → (tokens : List Token) → scanner.mark m ∷ scanner.tokens_of bytes ≡ map scan_of tokens → AllByRecursion IsSigToken tokens → NoTwins tokens → AreTokens (b ∷ bytes) tokens
  cut_mark m is [] e each apart = cc
  cut_mark m is (token.Name x ∷ ts) e each apart = cc
  cut_mark m is (token.Word reserved_word.Const ∷ ts) e each apart = cc
  cut_mark m is (token.Symbol s.Open ∷ ts) e each apart = cut_open (is ∙ (cc)) ts (cc) each.1 apart.1
  cut_mark m is (token.Symbol s.Close ∷ ts) e each apart = cut_close (is ∙ (cc)) ts (cc) each.1 apart.1
  cut_mark m is (token.Symbol s.Comma ∷ ts) e each apart = cut_comma (is ∙ (cc)) ts (cc) each.1 apart.1
  cut_mark m is (token.Symbol s.Star ∷ ts) e each apart = cut_star (is ∙ (cc)) ts (cc) each.1 apart.1
  cut_mark m is (token.Symbol s.Ampersand ∷ ts) e each apart = cut_ampersand (is ∙ (cc)) ts (cc) (apart.0 refl) each.1 apart.1
  cut_mark m is (_ ∷ ts) e each apart = absurd each.0

  cut_first : (tokens : List Token) → (is_name_byte b ≡ true) ⊎ (is_name_byte b ≡ false) → (is_blank b ≡ true) ⊎ (is_blank b ≡ false) → scanner.tokens_of (b ∷ bytes) ≡ map scan_of tokens → AllByRecursion IsSigToken tokens → NoTwins tokens → AreTokens (b ∷ bytes) tokens
  cut_first tokens (inl h) k e each apart =
      let w = word_at bytes in
      let r = longer b bytes w h in
      cut_word (b ∷ w.letters) w.rest (let short = no_longer bytes w in omega arith) r tokens (sym (word_next (b ∷ bytes) (b ∷ w.letters) w.rest tt r) ∙ e) each apart
  cut_first tokens (inr h) (inl k) e each apart = cut_blank k tokens e each apart
  cut_first tokens (inr h) (inr k) e each apart =
      let scan : scanner.tokens_of (b ∷ bytes) ≡ scanner.mark (mark_of b) ∷ scanner.tokens_of bytes = rw (h, k) refl in
      cut_mark (mark_of b) refl tokens (sym scan ∙ e) each apart

cut_as_scanned : (n : ℕ) → AreCutUpTo n
cut_as_scanned n [] [] fits e each apart = record { pieces = []; cut = refl; tokens_are = refl }
cut_as_scanned n [] (t ∷ ts) fits e each apart = cc
cut_as_scanned zero (b ∷ bytes) tokens fits e each apart = absurd (omega arith)
cut_as_scanned (suc n) (b ∷ bytes) tokens fits e each apart =
    cut_first n (cut_as_scanned n) b bytes (omega arith) tokens (sure (is_name_byte b)) (sure (is_blank b)) e each apart

-- ---- the tokens of a signature

apart_ending : (ending : TypeEnding) (after : List Token) → NotAt s.Ampersand after → NoTwins after → NoTwins (spell_ending ending after)
apart_ending Bare after none h = h
apart_ending Reference after none h = (λ e. none, h)
apart_ending Pointer after none h = (λ e. cc, h)

apart_named : (place : ConstPlace) (name : List ℕ) (after : List Token) → NoTwins after → NoTwins (spell_named place name after)
apart_named Nowhere name after h = (λ e. cc, h)
apart_named Before name after h = (λ e. cc, (λ e. cc, h))
apart_named After name after h = (λ e. cc, (λ e. cc, h))

others_begin : (rs : List TypeReading) → NotAt s.Ampersand (spell_others spell_type rs [])
others_begin [] rest e = cc
others_begin (r ∷ rs) rest e = cc

abbrev as_read : scanned.TypeReading → TypeReading
as_read r = spelled_type r.place r.name r.ending

same_readings : (rs : List scanned.TypeReading) → map as_scanned (map as_read rs) ≡ rs
same_readings [] = refl
same_readings (r ∷ rs) = ap (λ more. r ∷ more) (same_readings rs)

others_are_tokens : (rs : List scanned.TypeReading) (types : List QType) → AllZip IsTypeOf rs types → AreSigTokens (spell_others spell_type (map as_read rs) [])
others_are_tokens [] types h = record { each = (tt, tt); apart = (λ e. cc, tt) }
others_are_tokens (r ∷ rs) [] h = absurd h
others_are_tokens (r ∷ rs) (t ∷ ts) h =
    let after = spell_others spell_type (map as_read rs) [] in
    let more = others_are_tokens rs ts h.1 in
    record {
      each = (tt, sig_named r.place r.name (spell_ending r.ending after) h.0.named (sig_ending r.ending after more.each));
      apart = (λ e. cc, apart_named r.place r.name (spell_ending r.ending after) (apart_ending r.ending after (others_begin (map as_read rs)) more.apart));
    }

list_is_tokens : (rs : List scanned.TypeReading) (types : List QType) → AllZip IsTypeOf rs types → AreSigTokens (spell_listed spell_type (map as_read rs) [])
list_is_tokens [] types h = record { each = (tt, (tt, tt)); apart = (λ e. cc, (λ e. cc, tt)) }
list_is_tokens (r ∷ rs) types h =
    let same = others_are_tokens (r ∷ rs) types h in
    record { each = (tt, same.each.1); apart = (λ e. cc, same.apart.1) }

normal_as_read : (rs : List scanned.TypeReading) (types : List QType) → AllZip IsTypeOf rs types → AllZip IsNormalFormOf (map as_read rs) types
normal_as_read [] [] h = tt
normal_as_read [] (t ∷ ts) h = absurd h
normal_as_read (r ∷ rs) [] h = absurd h
normal_as_read (r ∷ rs) (t ∷ ts) h = (h.0.normal, normal_as_read rs ts h.1)

pub normal_forms_are_in_tokens : NormalFormsAreInTokens
normal_forms_are_in_tokens text x h =
    let types = h.typed.types in
    let readings = map as_read types.readings in
    let list = list_is_tokens types.readings x.types types.each in
    let same : scanned.spell_list types.readings [] ≡ scanned.spell_list (map as_scanned readings) [] = ap (λ rs. scanned.spell_list rs []) (sym (same_readings types.readings)) in
    let scan : scanner.tokens_of text ≡ map scan_of (spell_sig (sig x.name readings) []) =
    h.typed.framed ∙ ap (λ ts. scanner.word x.name ∷ ts) (ap (λ ts. scanner.mark mark.Open ∷ ts) (types.spelled ∙ same) ∙ sym (scan_list readings [])) in
    record {
      types = readings;
      cut = cut_as_scanned (length text) text (spell_sig (sig x.name readings) []) (omega arith) scan (h.typed.named, list.each) (λ e. cc, list.apart);
      normal = normal_as_read types.readings x.types types.each;
      few = h.few;
    }
