-- Which values have a type (docs/language.md, "Values").
use Rattle.std.specs.Prelude.{◌≡◌, ℕ, ℤ, Bool, List, Option, Some, None}
use Rattle.basic_types.specs.declared.value.Value.{Value}
use Rattle.basic_types.specs.declared.value.Value.TheVariants.{Int, Bool as Truth, Text, Ref}

-- How types are spelled as a T, and their classes as a C: `int`, `bool`, `QString`, and `C*` or, if it is true,
-- `const C*`.
pub record Types (T C : Type 0) : Type 0 where
  pub number : T
  pub truth : T
  pub text : T
  pub reference : C → Bool → T

-- A value has a type, where `class` gives the class of each living object and `below` says which class is another one or
-- below it: null has every reference type, and an object those of its class and of the classes above it, whether they
-- are const or not.
pub data Has {T C : Type 0} (types : Types T C) (class : ℕ → Option C) (below : C → C → Type 0) : Value → T → Type 0 where
  number_has : {n : ℤ} → Has types class below (Int n) types.number
  truth_has : {b : Bool} → Has types class below (Truth b) types.truth
  text_has : {t : List ℕ} → Has types class below (Text t) types.text
  null_has : {c : C} {constant : Bool} → Has types class below (Ref None) (types.reference c constant)
  object_has : {o : ℕ} {c d : C} {constant : Bool} → class o ≡ Some d → below d c → Has types class below (Ref (Some o)) (types.reference c constant)
