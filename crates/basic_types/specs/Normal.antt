-- The normal form of types and signatures (docs/language.md, "Signatures").
use Rattle.std.specs.Prelude.{ℕ, Bool, true, false, List, Option, Some, None}
use Rattle.basic_types.specs.declared.normal.ConstPlace.{ConstPlace}
use Rattle.basic_types.specs.declared.normal.ConstPlace.TheVariants.{Nowhere, Before, After}
use Rattle.basic_types.specs.declared.normal.TypeEnding.{TypeEnding}
use Rattle.basic_types.specs.declared.normal.TypeEnding.TheVariants.{Bare, Reference, Pointer}
use Rattle.basic_types.specs.declared.qtype.QType.{QType}
use Rattle.basic_types.specs.Types.{value_type}

abbrev pub pointer_type : List ℕ → Bool → QType
pointer_type name constant = record { name = name; constant = constant; pointer = true }

-- `const T &`, `T const &`, `const T`, `T const` and `T` give `T`; `const T *` and `T const *` give `const T*`; `T *`
-- gives `T*`; `T &` gives nothing
abbrev pub normal_of : List ℕ → ConstPlace → TypeEnding → Option QType
normal_of name place Bare = Some (value_type name)
normal_of name Nowhere Reference = None
normal_of name Before Reference = Some (value_type name)
normal_of name After Reference = Some (value_type name)
normal_of name Nowhere Pointer = Some (pointer_type name false)
normal_of name Before Pointer = Some (pointer_type name true)
normal_of name After Pointer = Some (pointer_type name true)
