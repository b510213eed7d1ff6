-- What the readers of lists do, and where the parts of a list may end.
use Rattle.std.specs.Prelude.{◌≡◌, List, ◌∷◌, map, Result}
use Rattle.basic_types.specs.declared.word.Word.{Word}
use Rattle.token_reading.specs.code.Cursor.{NotAt, NotAtWord}
use Rattle.token_reading.specs.code.Reading.{Reads, EndsAnywhere}
use Rattle.token_reading.specs.declared.fault.ParseFault.{ParseFault}
use Rattle.texts.specs.declared.symbol.Symbol.TheVariants.{Close, Comma}
use Rattle.texts.specs.declared.token.Token.{Token}
use Rattle.texts.specs.declared.token.Token.TheVariants as token
use Rattle.token_reading.specs.Lists.{spell_parts, trees_of_parts, spell_after, spell_listed}

-- the trees of the parts, whatever follows the list
abbrev pub ReadsList : {R A : Type 0} → (R → List Token → List Token) → (R → A) → List Token → Result (List A) ParseFault → List Token → Type 0
ReadsList spell tree before result after = Reads (spell_listed spell) (map tree) EndsAnywhere before result after

-- a part may end here, and no comma comes next
pub record EndsParts (Ends : List Token → Type 0) (after : List Token) : Type 0 where
  pub part : Ends after
  pub no_comma : NotAt Comma after

-- nor does the word
pub record EndsAfter (word : Word) (Ends : List Token → Type 0) (after : List Token) : Type 0 where
  pub parts : EndsParts Ends after
  pub no_word : NotAtWord word after

-- the trees of the parts, of which there is one at least
abbrev pub ReadsParts : {R A : Type 0} → (R → List Token → List Token) → (R → A) → (List Token → Type 0) → List Token → Result (List A) ParseFault → List Token → Type 0
ReadsParts spell tree Ends before result after = Reads (spell_parts spell) (trees_of_parts tree) (EndsParts Ends) before result after

-- the trees of the parts behind the word, and none without it
abbrev pub ReadsAfter : {R A : Type 0} → Word → (R → List Token → List Token) → (R → A) → (List Token → Type 0) → List Token → Result (List A) ParseFault → List Token → Type 0
ReadsAfter word spell tree Ends before result after = Reads (spell_after word spell) (map tree) (EndsAfter word Ends) before result after

-- a part may end at a comma
abbrev pub EndsAtComma : (List Token → Type 0) → Type 0
EndsAtComma Ends = (rest : List Token) → Ends (token.Symbol Comma ∷ rest)

-- a part may end at a comma and at the closing parenthesis, and doesn't begin with that
pub record IsPart {R : Type 0} (spell : R → List Token → List Token) (Ends : List Token → Type 0) : Type 0 where
  pub at_comma : EndsAtComma Ends
  pub at_close : (rest : List Token) → Ends (token.Symbol Close ∷ rest)
  pub unclosed : (r : R) (rest after : List Token) → spell r rest ≡ token.Symbol Close ∷ after → ⊥
