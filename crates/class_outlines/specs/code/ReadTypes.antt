-- What a declared type is read as while names are resolved.
use Rattle.std.specs.Prelude.{◌≡◌, ◌⊎◌, List}
use Rattle.basic_types.specs.declared.qtype.QType.{QType}
use Rattle.meta_model.specs.declared.object.ValueType.{ValueType}
use Rattle.meta_model.specs.declared.object.ValueType.TheVariants.{Int}
use Rattle.class_outlines.specs.declared.outline.Outline.{Outline}
use Rattle.class_outlines.specs.DeclaredKinds.{IsKindIn, LacksType}

-- what it stands for; where there is no such type, `int`, and the program doesn't load in the end
abbrev pub IsReadAs : List Outline → QType → ValueType → Type 0
IsReadAs outlines T kind = IsKindIn outlines T kind ⊎ (LacksType outlines T × (kind ≡ Int))
