-- What a reader does for a rule of a grammar (texts, Reading), from its readings, what `spell` gives of them, and their trees.
use Rattle.std.specs.Prelude.{List, [], ◌≡◌, Result, Ok, Err}
use Rattle.texts.specs.declared.token.Token.{Token}
use Rattle.token_reading.specs.declared.fault.ParseFault.{ParseFault}
use Rattle.token_reading.specs.declared.fault.ParseFault.TheVariants.{Syntax}

-- a rule that ends with a token of its own may be followed by anything
abbrev pub EndsAnywhere : List Token → Type 0
EndsAnywhere after = Unit {0}

-- no token comes next
abbrev pub IsAtEnd : List Token → Type 0
IsAtEnd after = after ≡ []

-- A reading of the tokens in front of `after`. `only`: no other reading that the rest lets end goes less far, or farther.
pub record Found {R A : Type 0} (spell : R → List Token → List Token) (tree : R → A) (Ends : List Token → Type 0) (before : List Token) (a : A) (after : List Token) : Type 0 where
  pub reading : R
  pub spelled : before ≡ spell reading after
  pub tree_is : tree reading ≡ a
  pub only : (r : R) (rest : List Token) → Ends rest → before ≡ spell r rest → after ≡ rest

-- the tree of the reading at the front and what follows it; a fault of syntax only where there is no reading
abbrev pub Reads : {R A : Type 0} → (R → List Token → List Token) → (R → A) → (List Token → Type 0) → List Token → Result A ParseFault → List Token → Type 0
Reads spell tree Ends before (Ok a) after = Found spell tree Ends before a after
Reads {R} spell tree Ends before (Err fault) after = fault ≡ Syntax → (r : R) (rest : List Token) → Ends rest → before ≡ spell r rest → ⊥
