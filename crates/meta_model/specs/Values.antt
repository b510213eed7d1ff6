-- Which values have a type, and which one a property of the type has by itself (docs/language.md, "Values").
use Rattle.std.specs.Prelude.{ℕ, false, pos, List, [], Option, None}
use Rattle.std.specs.List.{AllZip}
use Rattle.basic_types.specs.declared.value.Value.{Value}
use Rattle.basic_types.specs.declared.value.Value.TheVariants as value
use Rattle.basic_types.specs.Values.{Types, Has as AnyHas}
pub use Rattle.basic_types.specs.Values.{number_has, truth_has, text_has, null_has, object_has}
use Rattle.meta_model.specs.declared.object.ValueType.{ValueType}
use Rattle.meta_model.specs.declared.object.ValueType.TheVariants as type
use Rattle.meta_model.specs.Loaded.{Loaded}
use Rattle.meta_model.specs.Members.{Below}

-- how the types of values and their classes are numbered
abbrev pub value_types : Types ValueType ℕ
value_types = record { number = type.Int; truth = type.Bool; text = type.Text; reference = λ c constant. type.Reference c constant }

-- a value has a type of the program, where `class` gives the class of each living object
abbrev pub Has : Loaded → (ℕ → Option ℕ) → Value → ValueType → Type 0
Has p class v T = AnyHas value_types class (Below p) v T

-- as many values as types, each of its type
abbrev pub HaveTypes : Loaded → (ℕ → Option ℕ) → List Value → List ValueType → Type 0
HaveTypes p class vs Ts = AllZip (Has p class) vs Ts

-- what a property of this type is at first where no literal is given, and what it reads as where a path led to null
abbrev pub default : ValueType → Value
default type.Int = value.Int (pos 0)
default type.Bool = value.Bool false
default type.Text = value.Text []
default (type.Reference class constant) = value.Ref None
