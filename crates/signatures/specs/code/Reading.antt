-- What each reader of a signature's tokens does. `before` are the tokens in front of it, and `after` those that it leaves.
use Rattle.std.specs.Borrow.{Bor}
use Rattle.std.specs.Prelude.{ℕ, Bool, true, false, ◌≡◌, List, ◌∷◌, codes, Option, Some, None, Result, Ok, Err}
use Rattle.basic_types.specs.Signatures.{spell_ending, spell_named, spell_type, TypeReading, IsFreeName, IsTypeOf, AreTypes}
use Rattle.basic_types.specs.Tokens.{Token, word, mark}
use Rattle.signatures.specs.declared.fault.SigFault.{SigFault}
use Rattle.signatures.specs.declared.fault.SigFault.TheVariants.{BadName, BadType, TooMany, Memory}
use Rattle.basic_types.specs.declared.normal.ConstPlace.{ConstPlace}
use Rattle.basic_types.specs.declared.normal.TypeEnding.{TypeEnding}
use Rattle.basic_types.specs.declared.qtype.QType.{QType}
use Rattle.basic_types.specs.declared.mark.Mark.TheVariants.{Close, Comma}

-- the token isn't the first of these
abbrev pub NotAt : Token → List Token → Type 0
NotAt token tokens = (rest : List Token) → tokens ≡ token ∷ rest → ⊥

-- the token is taken where it comes next, and nothing where it doesn't
abbrev pub Eats : Token → List Token → Bool → List Token → Type 0
Eats token before true after = before ≡ token ∷ after
Eats token before false after = (after ≡ before) × NotAt token before

-- the name that comes next is taken, or none comes next that isn't reserved
abbrev pub TakesName : List Token → Option (Bor (List ℕ)) → List Token → Type 0
TakesName before None after = (name : List ℕ) → IsFreeName name → NotAt (word name) before
TakesName before (Some name) after = (before ≡ word name.now ∷ after) × IsFreeName name.now

abbrev pub const_word : Token
const_word = word (codes "const")

-- what follows a type: `)` behind the last one, and `,` behind the others
abbrev pub separator : Bool → Token
separator true = mark Close
separator false = mark Comma

-- what follows a type is taken, or nothing of that comes next
abbrev pub TakesSeparator : List Token → Option Bool → List Token → Type 0
TakesSeparator before None after = (is_last : Bool) → NotAt (separator is_last) before
TakesSeparator before (Some is_last) after = before ≡ separator is_last ∷ after

-- `only`: no other reading that isn't followed by `const` goes less far, or farther
pub record NamedAt (before : List Token) (place : ConstPlace) (name : List ℕ) (after : List Token) : Type 0 where
  pub spelled : before ≡ spell_named place name after
  pub named : IsFreeName name
  pub only : (p : ConstPlace) (n : List ℕ) (rest : List Token) → IsFreeName n → NotAt const_word rest → before ≡ spell_named p n rest → (p ≡ place) × (n ≡ name) × (rest ≡ after)

-- a name with its `const`, if there is one
pub record NoNamedAt (before : List Token) : Type 0 where
  pub none : (p : ConstPlace) (n : List ℕ) (rest : List Token) → IsFreeName n → NotAt const_word rest → before ≡ spell_named p n rest → ⊥

-- the name that comes next is taken with its `const`, if there is one
abbrev pub TakesNamed : List Token → Option (ConstPlace × Bor (List ℕ)) → List Token → Type 0
TakesNamed before None after = NoNamedAt before
TakesNamed before (Some named) after = NamedAt before named.0 named.1.now after

pub record EndingAt (before : List Token) (ending : TypeEnding) (after : List Token) : Type 0 where
  pub spelled : before ≡ spell_ending ending after
  pub only : (e : TypeEnding) (is_last : Bool) (rest : List Token) → before ≡ spell_ending e (separator is_last ∷ rest) → (e ≡ ending) × (after ≡ separator is_last ∷ rest)

-- a type and what follows it
pub record TypeAt (before : List Token) (type : QType) (is_last : Bool) (after : List Token) : Type 0 where
  pub reading : TypeReading
  pub spelled : before ≡ spell_type reading (separator is_last ∷ after)
  pub normal : IsTypeOf reading type

-- the type and whether it is the last one, or a fault only where no type stands
abbrev pub ReadsType : List Token → Result (QType × Bool) SigFault → List Token → Type 0
ReadsType before (Ok found) after = TypeAt before found.0 found.1 after
ReadsType before (Err BadName) after = ⊥
ReadsType before (Err BadType) after = (type : QType) (is_last : Bool) (rest : List Token) → TypeAt before type is_last rest → ⊥
ReadsType before (Err TooMany) after = ⊥
ReadsType before (Err Memory) after = Unit {0}

-- the types up to `)`, or a fault only where no types stand
abbrev pub ReadsTypes : List Token → Result (List QType) SigFault → List Token → Type 0
ReadsTypes before (Ok types) after = AreTypes before types after
ReadsTypes before (Err BadName) after = ⊥
ReadsTypes before (Err BadType) after = (types : List QType) (rest : List Token) → AreTypes before types rest → ⊥
ReadsTypes before (Err TooMany) after = ⊥
ReadsTypes before (Err Memory) after = Unit {0}
