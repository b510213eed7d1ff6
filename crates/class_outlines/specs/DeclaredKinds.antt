-- What declared types stand for while a program is loaded (docs/language.md, "Types").
use Rattle.std.specs.Prelude.{ℕ, List}
use Rattle.basic_types.specs.declared.qtype.QType.{QType}
use Rattle.meta_model.specs.declared.object.ValueType.{ValueType}
use Rattle.meta_model.specs.Kinds.{IsTypeOf}
use Rattle.class_outlines.specs.declared.outline.Outline.{Outline}
use Rattle.class_outlines.specs.Outlines.{IsOutlineNamed}

-- a declared type, while the program is loaded
abbrev pub IsKindIn : List Outline → QType → ValueType → Type 0
IsKindIn outlines T kind = IsTypeOf (IsOutlineNamed outlines) T kind

-- there is no such type: a value type of another name, or a pointer to what is no class
abbrev pub LacksType : List Outline → QType → Type 0
LacksType outlines T = (kind : ValueType) → ¬ IsKindIn outlines T kind
