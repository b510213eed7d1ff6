-- What the test of plain types says of the types of a program.
use Rattle.std.proofs.Common.{ℕ, IsTrue, Option, refl}
use Rattle.basic_types.specs.declared.value.Value.{Value}
use Rattle.basic_types.specs.declared.value.Value.TheVariants as value
use Rattle.meta_model.specs.declared.object.ValueType.{ValueType}
use Rattle.meta_model.specs.declared.object.ValueType.TheVariants as type
use Rattle.meta_model.specs.Loaded.{Loaded}
use Rattle.meta_model.specs.Values.{Has}
use Rattle.basic_types.specs.Values.{number_has, truth_has, text_has}
use Rattle.native_slots.specs.declared.plain_type.PlainType.{PlainType}
use Rattle.native_slots.specs.declared.plain_type.PlainType.TheVariants as plain
use Rattle.native_slots.specs.Plain.{kind_of, is_of}

module _ (p : Loaded) (classes : ℕ → Option ℕ) where
  -- a value of a plain type has it, whatever the objects' classes are
  pub has_of : (v : Value) (T : ValueType) → IsTrue (is_of v T) → Has p classes v T
  has_of (value.Int n) type.Int h = number_has
  has_of (value.Int n) type.Bool h = absurd cc
  has_of (value.Int n) type.Text h = absurd cc
  has_of (value.Int n) (type.Reference c k) h = absurd cc
  has_of (value.Bool b) type.Bool h = truth_has
  has_of (value.Bool b) type.Int h = absurd cc
  has_of (value.Bool b) type.Text h = absurd cc
  has_of (value.Bool b) (type.Reference c k) h = absurd cc
  has_of (value.Text t) type.Text h = text_has
  has_of (value.Text t) type.Int h = absurd cc
  has_of (value.Text t) type.Bool h = absurd cc
  has_of (value.Text t) (type.Reference c k) h = absurd cc
  has_of (value.Ref o) T h = absurd cc

  -- a value that has a plain type is of it
  pub of_has : (v : Value) (T : PlainType) → Has p classes v (kind_of T) → IsTrue (is_of v (kind_of T))
  of_has v plain.Int number_has = refl
  of_has v plain.Bool truth_has = refl
  of_has v plain.Text text_has = refl
