-- Whether a line has tokens.
use Rattle.std.proofs.Common.{◌≡◌, subst, Bool, true, false, not, ℕ, List, [], ◌∷◌}
use Rattle.std.specs.Bool.{MatchBool}
use Rattle.basic_types.specs.{Name.{is_letter}, Tokens.{is_blank}}
use Rattle.texts.specs.declared.bytes.ByteClass.TheVariants.{Blank}
use Rattle.texts.specs.declared.token.Token.{Token}
use Rattle.texts.specs.{Pieces.{AreTokens, IsCut, Piece, blank, comment, tokens_of}, code.Bytes.{class_of}}
use Rattle.texts.proofs.{Cut.{same_tokens}, FirstPieces.{class_at_front, letter_class}}
use Rattle.diagnostics.specs.Blank.{IsBlank, TellsTokens}

pub told_by_tokens : (line : List ℕ) (tokens : List Token) (empty : Bool) → AreTokens line tokens → MatchBool empty (tokens ≡ []) (tokens ≡ [] → ⊥) → TellsTokens line (not empty)
told_by_tokens line tokens true cut m = subst (AreTokens line) m cut
told_by_tokens line tokens false cut m = λ none. m (same_tokens line tokens [] cut none)

pub told_some : (line : List ℕ) (found : Bool) → found ≡ true → TellsTokens line found → ¬ IsBlank line
told_some line found e h = subst (TellsTokens line) e h

pub told_none : (line : List ℕ) (found : Bool) → found ≡ false → TellsTokens line found → IsBlank line
told_none line found e h = subst (TellsTokens line) e h

letter_cut : (b : ℕ) (bs : List ℕ) (ps : List Piece) → is_letter b ≡ true → IsCut ps (b ∷ bs) → tokens_of ps ≡ [] → ⊥
letter_cut b bs [] h cut e = cc
letter_cut b bs (blank x ∷ ps) h cut e = let k = class_at_front (blank x) (b ∷ bs) cut.0 cut.1 in let l = letter_class b h in cc
letter_cut b bs (comment x ∷ ps) h cut e = let k = class_at_front (comment x) (b ∷ bs) cut.0 cut.1 in let l = letter_class b h in cc
letter_cut b bs (p ∷ ps) h cut e = cc

-- a line that begins with a letter has a token
pub told_by_letter : (b : ℕ) (bs : List ℕ) → is_letter b ≡ true → ¬ IsBlank (b ∷ bs)
told_by_letter b bs h = λ t. letter_cut b bs t.pieces h t.cut t.tokens_are

blank_class : (b : ℕ) → is_blank b ≡ true → class_of b ≡ Blank
blank_class b h = rw h

blank_cut : (b : ℕ) (bs : List ℕ) (ps : List Piece) → is_blank b ≡ true → IsCut ps (b ∷ bs) → tokens_of ps ≡ [] → IsBlank bs
blank_cut b bs [] h cut e = cc
blank_cut b bs (blank x ∷ ps) h cut e =
    let front = (cut.1).1 in
    let rest : cut.0 ≡ bs = cc in
    record { pieces = ps; cut = subst (IsCut ps) rest cut.2; tokens_are = e }
blank_cut b bs (comment x ∷ ps) h cut e = let k = class_at_front (comment x) (b ∷ bs) cut.0 cut.1 in let l = blank_class b h in cc
blank_cut b bs (p ∷ ps) h cut e = cc

-- what follows a blank at the front of a blank line is blank
pub blank_behind : (b : ℕ) (bs : List ℕ) → is_blank b ≡ true → IsBlank (b ∷ bs) → IsBlank bs
blank_behind b bs h t = blank_cut b bs t.pieces h t.cut t.tokens_are
