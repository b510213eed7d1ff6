-- Types and signatures (docs/language.md, "Signatures").
use Rattle.std.specs.Prelude.{◌≡◌, ℕ, false, List, ◌++◌, ◌⊎◌, codes}
use Rattle.basic_types.specs.declared.qtype.QType.{QType}
use Rattle.basic_types.specs.declared.sig.Sig.{Sig}

-- the value type of a name
abbrev pub value_type : List ℕ → QType
value_type name = record { name = name; constant = false; pointer = false }

-- The types of values: numbers and truth values as in C++, and texts (Qt 6, "QString Class").
abbrev pub int_name : List ℕ
int_name = codes "int"

abbrev pub bool_name : List ℕ
bool_name = codes "bool"

abbrev pub text_name : List ℕ
text_name = codes "QString"

-- a type of values has this name
abbrev pub IsValueName : List ℕ → Type 0
IsValueName name = (name ≡ int_name) ⊎ (name ≡ bool_name) ⊎ (name ≡ text_name)

-- A slot fits a signal whose types begin with the slot's (Qt 6, "Signals & Slots": a slot may have a shorter
-- signature than the signal that it receives).
abbrev pub Fits : Sig → Sig → Type 0
Fits signal slot = (rest : List QType) × (signal.types ≡ slot.types ++ rest)

-- the front is a prefix of the list
abbrev pub BeginsWith : List QType → List QType → Type 0
BeginsWith types front = (rest : List QType) × (types ≡ front ++ rest)
