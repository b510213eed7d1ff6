-- What declared types stand for, their classes replaced by numbers (docs/language.md, "Types").
use Rattle.std.specs.Prelude.{◌≡◌, ℕ, true, List}
use Rattle.basic_types.specs.declared.qtype.QType.{QType}
use Rattle.basic_types.specs.Types.{value_type, int_name, bool_name, text_name}
use Rattle.meta_model.specs.declared.object.ValueType.{ValueType}
use Rattle.meta_model.specs.declared.object.ValueType.TheVariants.{Int, Bool, Text, Reference}
use Rattle.meta_model.specs.Loaded.{Loaded}
use Rattle.meta_model.specs.Members.{IsClassNamed}

-- a declared type, where these are the names of these classes
abbrev pub IsTypeOf : (List ℕ → ℕ → Type 0) → QType → ValueType → Type 0
IsTypeOf IsNamed T Int = T ≡ value_type int_name
IsTypeOf IsNamed T Bool = T ≡ value_type bool_name
IsTypeOf IsNamed T Text = T ≡ value_type text_name
IsTypeOf IsNamed T (Reference c constant) = (T.pointer ≡ true) × (T.constant ≡ constant) × IsNamed T.name c

-- a declared type, in a loaded program
abbrev pub IsKind : Loaded → QType → ValueType → Type 0
IsKind p T kind = IsTypeOf (IsClassNamed p) T kind
