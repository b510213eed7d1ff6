-- The words and marks of a signature's text (docs/language.md, "Signatures").
use Rattle.std.specs.Prelude.{ℕ, Bool, ◌≡◌, true, false, ◌||◌, nat_eq, List, [], ◌∷◌, ◌++◌, if◌then◌else◌}
use Rattle.std.specs.List.{AllByRecursion}
use Rattle.basic_types.specs.Name.{is_name_byte}
use Rattle.basic_types.specs.declared.mark.Mark.{Mark}
use Rattle.basic_types.specs.declared.mark.Mark.TheVariants.{Open, Close, Comma, Ampersand, Star, Other}

pub data Token : Type 0 where
  word : List ℕ → Token
  mark : Mark → Token

-- space, tab, carriage return and newline
abbrev pub is_blank : ℕ → Bool
is_blank b = nat_eq b 32 || nat_eq b 9 || nat_eq b 13 || nat_eq b 10

-- `(` is 40, `)` 41, `,` 44, `&` 38 and `*` 42
abbrev pub mark_of : ℕ → Mark
mark_of b =
    if nat_eq b 40 then Open
    else (if nat_eq b 41 then Close
    else (if nat_eq b 44 then Comma
    else (if nat_eq b 38 then Ampersand
    else (if nat_eq b 42 then Star else Other))))

-- a word that ends here, if there is one
abbrev pub ended : List ℕ → List Token → List Token
ended [] tokens = tokens
ended (b ∷ bs) tokens = word (b ∷ bs) ∷ tokens

-- The first list is the word so far.
abbrev pub tokens_from : List ℕ → List ℕ → List Token
tokens_from so_far [] = ended so_far []
tokens_from so_far (b ∷ bs) =
    if is_name_byte b then tokens_from (so_far ++ b ∷ []) bs
    else (if is_blank b then ended so_far (tokens_from [] bs) else ended so_far (mark (mark_of b) ∷ tokens_from [] bs))

-- words are the longest runs of letters and digits, and every other byte that isn't blank is a mark
abbrev pub tokens_of : List ℕ → List Token
tokens_of = tokens_from []

-- a run of bytes that pass the test doesn't go on there
abbrev pub StopsBy : (ℕ → Bool) → List ℕ → Type 0
StopsBy test [] = Unit {0}
StopsBy test (b ∷ rest) = test b ≡ false

-- no word goes on there
abbrev pub EndsWord : List ℕ → Type 0
EndsWord rest = StopsBy is_name_byte rest

-- `taken` is the longest run of bytes that pass the test at the front of the bytes, and `rest` is what follows it
pub record IsRunBy (test : ℕ → Bool) (bytes taken rest : List ℕ) : Type 0 where
  pub split : bytes ≡ taken ++ rest
  pub each : AllByRecursion (λ b. test b ≡ true) taken
  pub stops : StopsBy test rest
