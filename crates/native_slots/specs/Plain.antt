-- The types that natives know, and which values are of them (docs/natives.md, "Effects").
use Rattle.std.specs.Prelude.{Bool, true, false, ◌&&◌, List, [], ◌∷◌}
use Rattle.basic_types.specs.declared.value.Value.{Value}
use Rattle.basic_types.specs.declared.value.Value.TheVariants as value
use Rattle.meta_model.specs.declared.object.ValueType.{ValueType}
use Rattle.meta_model.specs.declared.object.ValueType.TheVariants as type
use Rattle.native_slots.specs.declared.plain_type.PlainType.{PlainType}
use Rattle.native_slots.specs.declared.plain_type.PlainType.TheVariants as plain

-- the same type, among those of a program
abbrev pub kind_of : PlainType → ValueType
kind_of plain.Int = type.Int
kind_of plain.Bool = type.Bool
kind_of plain.Text = type.Text

-- a number is an `int`, a truth value a `bool`, a text a `QString`; a reference is of no plain type
abbrev pub is_of : Value → ValueType → Bool
is_of (value.Int n) type.Int = true
is_of (value.Int n) _ = false
is_of (value.Bool b) type.Bool = true
is_of (value.Bool b) _ = false
is_of (value.Text t) type.Text = true
is_of (value.Text t) _ = false
is_of (value.Ref o) T = false

-- as many values as types, each of its type
abbrev pub are_of : List Value → List ValueType → Bool
are_of [] [] = true
are_of [] (T ∷ Ts) = false
are_of (v ∷ vs) [] = false
are_of (v ∷ vs) (T ∷ Ts) = is_of v T && are_of vs Ts
