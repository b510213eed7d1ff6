-- A text that has a signature's bytes alone is cut into tokens as it is scanned as a signature.
use Rattle.std.{proofs.Common.{◌≡◌, ◌⊎◌, ◌∙◌, ℕ, Bool, true, false, ◌||◌, nat_eq, List, [], ◌∷◌, ◌++◌, map, refl, ap, inl, inr}, proofs.lemmas.Bool.{eqb-true}, specs.List.{AllByRecursion, AllZip}}
use Rattle.basic_types.{specs.Name.{is_name_byte}, specs.Signatures.{IsFreeName, IsTypeOf, Normal}, specs.Tokens.{is_blank}, specs.Words.{word_spelling}, specs.declared.normal.ConstPlace.{ConstPlace}, specs.declared.normal.ConstPlace.TheVariants.{Nowhere, Before, After}, specs.declared.normal.TypeEnding.{TypeEnding}, specs.declared.normal.TypeEnding.TheVariants.{Bare, Reference, Pointer}, specs.declared.qtype.QType.{QType}, specs.declared.word.Word.{Word}, proofs.Tokens.{taken, stopped}}
use Rattle.basic_types.specs.Signatures as scanned
use Rattle.basic_types.specs.Tokens as scanner
use Rattle.basic_types.specs.declared.mark.Mark.TheVariants as mark
use Rattle.basic_types.specs.declared.word.Word.TheVariants as reserved_word
use Rattle.texts.{specs.Bytes.{IsRun}, specs.Pieces.{AreTokens, Piece, IsNotEmpty, IsCut, tokens_of}, specs.Symbols.{spelling}, specs.declared.symbol.Symbol.{Symbol}, specs.declared.token.Token.{Token}, proofs.FirstPieces.{named}}
use Rattle.token_reading.specs.{Lists.{spell_others, spell_listed}, Signatures.{TypeReading, spelled_type, spell_ending, spell_named, spell_type, sig, spell_sig}, SignatureTexts.{IsSigByte, IsNormalFormOf, TokensGiveNormalForms}}
use Rattle.texts.specs.Pieces as piece
use Rattle.texts.specs.declared.bytes.Run.TheVariants as run
use Rattle.texts.specs.declared.symbol.Symbol.TheVariants as s
use Rattle.texts.specs.declared.token.Token.TheVariants as token

-- ---- one token

-- a token as the scanner of signatures has it
abbrev pub scan_of : Token → scanner.Token
scan_of (token.Name letters) = scanner.word letters
scan_of (token.Word w) = scanner.word (word_spelling w)
scan_of (token.Symbol s.Open) = scanner.mark mark.Open
scan_of (token.Symbol s.Close) = scanner.mark mark.Close
scan_of (token.Symbol s.Comma) = scanner.mark mark.Comma
scan_of (token.Symbol s.Ampersand) = scanner.mark mark.Ampersand
scan_of (token.Symbol s.Star) = scanner.mark mark.Star
scan_of _ = scanner.mark mark.Other

-- a token that a signature has
abbrev pub IsSigToken : Token → Type 0
IsSigToken (token.Name letters) = IsFreeName letters
IsSigToken (token.Word reserved_word.Const) = Unit {0}
IsSigToken (token.Symbol s.Open) = Unit {0}
IsSigToken (token.Symbol s.Close) = Unit {0}
IsSigToken (token.Symbol s.Comma) = Unit {0}
IsSigToken (token.Symbol s.Ampersand) = Unit {0}
IsSigToken (token.Symbol s.Star) = Unit {0}
IsSigToken _ = ⊥

-- ---- one piece

either : (x y : Bool) → (x || y) ≡ true → (x ≡ true) ⊎ (y ≡ true)
either true y h = inl refl
either false y h = inr h

no_name_at : (b n : ℕ) → is_name_byte n ≡ false → nat_eq b n ≡ true → is_name_byte b ≡ false
no_name_at b n other h = let e = eqb-true b n h in rw e other

blank_no_name : (b : ℕ) → is_blank b ≡ true → is_name_byte b ≡ false
blank_no_name b h = last (either (nat_eq b 32 || nat_eq b 9 || nat_eq b 13) (nat_eq b 10) h)
  where
    first : (nat_eq b 32 ≡ true) ⊎ (nat_eq b 9 ≡ true) → is_name_byte b ≡ false
    first (inl e) = no_name_at b 32 refl e
    first (inr e) = no_name_at b 9 refl e

    next : ((nat_eq b 32 || nat_eq b 9) ≡ true) ⊎ (nat_eq b 13 ≡ true) → is_name_byte b ≡ false
    next (inl e) = first (either (nat_eq b 32) (nat_eq b 9) e)
    next (inr e) = no_name_at b 13 refl e

    last : ((nat_eq b 32 || nat_eq b 9 || nat_eq b 13) ≡ true) ⊎ (nat_eq b 10 ≡ true) → is_name_byte b ≡ false
    last (inl e) = next (either (nat_eq b 32 || nat_eq b 9) (nat_eq b 13) e)
    last (inr e) = no_name_at b 10 refl e

pub blank_next : (b : ℕ) (rest : List ℕ) → is_blank b ≡ true → scanner.tokens_of (b ∷ rest) ≡ scanner.tokens_of rest
blank_next b rest h = rw (blank_no_name b h, h) refl

no_slash : IsSigByte 47 → ⊥
no_slash (inl e) = cc
no_slash (inr (inl e)) = cc
no_slash (inr (inr other)) = other refl

pub word_next : (bytes letters rest : List ℕ) → IsNotEmpty letters → IsRun run.Name bytes letters rest → scanner.tokens_of bytes ≡ scanner.word letters ∷ scanner.tokens_of rest
word_next bytes [] rest some r = absurd some
word_next bytes (b ∷ letters) rest some r = ap scanner.tokens_of r.split ∙ (taken (b ∷ letters) [] rest r.each ∙ stopped (b ∷ letters) rest r.stops)

spelled_by_letters : (w : Word) → IsNotEmpty (word_spelling w)
spelled_by_letters reserved_word.Class = tt
spelled_by_letters _ = tt

symbol_next : (symbol : Symbol) → IsSigToken (token.Symbol symbol) → (bytes rest : List ℕ) → bytes ≡ spelling symbol ++ rest → scanner.tokens_of bytes ≡ scan_of (token.Symbol symbol) ∷ scanner.tokens_of rest
symbol_next s.Open ok bytes rest e = ap scanner.tokens_of e
symbol_next s.Close ok bytes rest e = ap scanner.tokens_of e
symbol_next s.Comma ok bytes rest e = ap scanner.tokens_of e
symbol_next s.Ampersand ok bytes rest e = ap scanner.tokens_of e
symbol_next s.Star ok bytes rest e = ap scanner.tokens_of e
symbol_next _ ok bytes rest e = absurd ok

-- ---- all pieces

behind : (front rest : List ℕ) → AllByRecursion IsSigByte (front ++ rest) → AllByRecursion IsSigByte rest
behind [] rest h = h
behind (b ∷ front) rest h = behind front rest h.1

letters_some : (letters : List ℕ) → IsFreeName letters → IsNotEmpty letters
letters_some [] free = absurd free.name
letters_some (b ∷ bs) free = tt

-- the text is scanned as its tokens are
scanned_as_cut : (pieces : List Piece) (bytes : List ℕ) → AllByRecursion IsSigByte bytes → IsCut pieces bytes → AllByRecursion IsSigToken (tokens_of pieces) → scanner.tokens_of bytes ≡ map scan_of (tokens_of pieces)
scanned_as_cut [] bytes h cut ok = ap scanner.tokens_of cut
scanned_as_cut (piece.blank b ∷ ps) bytes h cut ok =
    ap scanner.tokens_of (cut.1).1 ∙ (blank_next b cut.0 (cut.1).0 ∙ scanned_as_cut ps cut.0 (rw (cut.1).1 at h).1 cut.2 ok)
scanned_as_cut (piece.comment line ∷ ps) bytes h cut ok = absurd (no_slash (rw (cut.1).1 at h).0)
scanned_as_cut (piece.name letters ∷ ps) bytes h cut ok =
    let run = (cut.1).2 in
    word_next bytes letters cut.0 (letters_some letters ok.0) run
    ∙ ap (λ ts. scanner.word letters ∷ ts) (scanned_as_cut ps cut.0 (behind letters cut.0 (rw run.split at h)) cut.2 ok.1)
scanned_as_cut (piece.reserved w ∷ ps) bytes h cut ok =
    let run = cut.1 in
    word_next bytes (word_spelling w) cut.0 (spelled_by_letters w) run
    ∙ ap (λ ts. scanner.word (word_spelling w) ∷ ts) (scanned_as_cut ps cut.0 (behind (word_spelling w) cut.0 (rw run.split at h)) cut.2 ok.1)
scanned_as_cut (piece.number digits ∷ ps) bytes h cut ok = absurd ok.0
scanned_as_cut (piece.text inner ∷ ps) bytes h cut ok = absurd ok.0
scanned_as_cut (piece.symbol x ∷ ps) bytes h cut ok =
    let at = (cut.1).split in
    symbol_next x ok.0 bytes cut.0 at
    ∙ ap (λ ts. scan_of (token.Symbol x) ∷ ts) (scanned_as_cut ps cut.0 (behind (spelling x) cut.0 (rw at at h)) cut.2 ok.1)

-- ---- the tokens of a signature

abbrev pub as_scanned : TypeReading → scanned.TypeReading
as_scanned (spelled_type place name ending) = record { place = place; name = name; ending = ending }

scan_ending : (ending : TypeEnding) (after : List Token) → map scan_of (spell_ending ending after) ≡ scanned.spell_ending ending (map scan_of after)
scan_ending Bare after = refl
scan_ending Reference after = refl
scan_ending Pointer after = refl

scan_named : (place : ConstPlace) (name : List ℕ) (after : List Token) → map scan_of (spell_named place name after) ≡ scanned.spell_named place name (map scan_of after)
scan_named Nowhere name after = refl
scan_named Before name after = refl
scan_named After name after = refl

scan_type : (r : TypeReading) (after : List Token) → map scan_of (spell_type r after) ≡ scanned.spell_type (as_scanned r) (map scan_of after)
scan_type (spelled_type place name ending) after = scan_named place name (spell_ending ending after) ∙ ap (scanned.spell_named place name) (scan_ending ending after)

scan_others : (rs : List TypeReading) (after : List Token) → map scan_of (spell_others spell_type rs after) ≡ scanned.spell_others (map as_scanned rs) (map scan_of after)
scan_others [] after = refl
scan_others (r ∷ rs) after =
    ap (λ ts. scanner.mark mark.Comma ∷ ts) (scan_type r (spell_others spell_type rs after) ∙ ap (scanned.spell_type (as_scanned r)) (scan_others rs after))

pub scan_list : (rs : List TypeReading) (after : List Token) → map scan_of (spell_listed spell_type rs after) ≡ scanner.mark mark.Open ∷ scanned.spell_list (map as_scanned rs) (map scan_of after)
scan_list [] after = refl
scan_list (r ∷ rs) after =
    ap (λ ts. scanner.mark mark.Open ∷ ts) (scan_type r (spell_others spell_type rs after) ∙ ap (scanned.spell_type (as_scanned r)) (scan_others rs after))

-- names in a signature's text aren't reserved
abbrev NamesAreFree : Token → Type 0
NamesAreFree (token.Name letters) = IsFreeName letters
NamesAreFree _ = Unit {0}

free_in_pieces : (pieces : List Piece) (bytes : List ℕ) → IsCut pieces bytes → AllByRecursion NamesAreFree (tokens_of pieces)
free_in_pieces [] bytes cut = tt
free_in_pieces (piece.blank b ∷ ps) bytes cut = free_in_pieces ps cut.0 cut.2
free_in_pieces (piece.comment line ∷ ps) bytes cut = free_in_pieces ps cut.0 cut.2
free_in_pieces (piece.name letters ∷ ps) bytes cut = (record { name = named letters (cut.1).0 ((cut.1).2).each; free = (cut.1).1 }, free_in_pieces ps cut.0 cut.2)
free_in_pieces (piece.reserved w ∷ ps) bytes cut = (tt, free_in_pieces ps cut.0 cut.2)
free_in_pieces (piece.number digits ∷ ps) bytes cut = (tt, free_in_pieces ps cut.0 cut.2)
free_in_pieces (piece.text inner ∷ ps) bytes cut = (tt, free_in_pieces ps cut.0 cut.2)
free_in_pieces (piece.symbol x ∷ ps) bytes cut = (tt, free_in_pieces ps cut.0 cut.2)

free_in_text : (bytes : List ℕ) (tokens : List Token) → AreTokens bytes tokens → AllByRecursion NamesAreFree tokens
free_in_text bytes tokens cut = rw cut.tokens_are at (free_in_pieces cut.pieces bytes cut.cut)

-- ---- what is read from tokens is scanned

free_behind_ending : (ending : TypeEnding) (after : List Token) → AllByRecursion NamesAreFree (spell_ending ending after) → AllByRecursion NamesAreFree after
free_behind_ending Bare after h = h
free_behind_ending Reference after h = h.1
free_behind_ending Pointer after h = h.1

free_name : (place : ConstPlace) (name : List ℕ) (after : List Token) → AllByRecursion NamesAreFree (spell_named place name after) → IsFreeName name × AllByRecursion NamesAreFree after
free_name Nowhere name after h = (h.0, h.1)
free_name Before name after h = (h.1.0, h.1.1)
free_name After name after h = (h.0, h.1.1)

pub sig_ending : (ending : TypeEnding) (after : List Token) → AllByRecursion IsSigToken after → AllByRecursion IsSigToken (spell_ending ending after)
sig_ending Bare after h = h
sig_ending Reference after h = (tt, h)
sig_ending Pointer after h = (tt, h)

pub sig_named : (place : ConstPlace) (name : List ℕ) (after : List Token) → IsFreeName name → AllByRecursion IsSigToken after → AllByRecursion IsSigToken (spell_named place name after)
sig_named Nowhere name after free h = (free, h)
sig_named Before name after free h = (tt, (free, h))
sig_named After name after free h = (free, (tt, h))

-- these types are read from the tokens, and scanned
record ReadAndScanned (tokens : List Token) (rs : List TypeReading) (types : List QType) : Type 0 where
  tokens_fit : AllByRecursion IsSigToken tokens
  each : AllZip IsTypeOf (map as_scanned rs) types

others_scanned : (rs : List TypeReading) (types : List QType) → AllByRecursion NamesAreFree (spell_others spell_type rs []) → AllZip IsNormalFormOf rs types → ReadAndScanned (spell_others spell_type rs []) rs types
others_scanned [] [] h normal = record { tokens_fit = (tt, tt); each = tt }
others_scanned [] (t ∷ ts) h normal = absurd normal
others_scanned (r ∷ rs) [] h normal = absurd normal
others_scanned (spelled_type place name ending ∷ rs) (t ∷ ts) h normal =
    let after = spell_others spell_type rs [] in
    let free = free_name place name (spell_ending ending after) h.1 in
    let more = others_scanned rs ts (free_behind_ending ending after free.1) normal.1 in
    record {
      tokens_fit = (tt, sig_named place name (spell_ending ending after) free.0 (sig_ending ending after more.tokens_fit));
      each = (record { named = free.0; normal = normal.0 }, more.each);
    }

list_scanned : (rs : List TypeReading) (types : List QType) → AllByRecursion NamesAreFree (spell_listed spell_type rs []) → AllZip IsNormalFormOf rs types → ReadAndScanned (spell_listed spell_type rs []) rs types
list_scanned [] [] h normal = record { tokens_fit = (tt, (tt, tt)); each = tt }
list_scanned [] (t ∷ ts) h normal = absurd normal
list_scanned (r ∷ rs) types h normal =
    let same = others_scanned (r ∷ rs) types (tt, h.1) normal in
    record { tokens_fit = (tt, same.tokens_fit.1); each = same.each }

pub tokens_give_normal_forms : TokensGiveNormalForms
tokens_give_normal_forms text bytes x h =
    let free = free_in_text text (spell_sig (sig x.name h.types) []) h.cut in
    let types = list_scanned h.types x.types free.1 h.normal in
    let fit : AllByRecursion IsSigToken (spell_sig (sig x.name h.types) []) = (free.0, types.tokens_fit) in
    let same = h.cut.tokens_are in
    let all = scanned_as_cut h.cut.pieces text bytes h.cut.cut (rw same fit) ∙ ap (map scan_of) same in
    record {
      typed = record {
        list = scanned.spell_list (map as_scanned h.types) [];
        framed = all ∙ ap (λ ts. scanner.word x.name ∷ ts) (scan_list h.types []);
        named = free.0;
        types = record { readings = map as_scanned h.types; spelled = refl; each = types.each };
      };
      few = h.few;
    }
