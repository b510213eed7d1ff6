-- The types of expressions (docs/language.md, "Types").
use Rattle.std.specs.{Prelude.{◌≡◌, ◌⊎◌, if◌then◌else◌, ℕ, true, false, List, Option, Some, None}, Option.{option_and_then, option_map}}
use Rattle.basic_types.specs.{declared.value.Value.{Value}, declared.qtype.QType.{QType}, Normal.{pointer_type}, Types.{value_type, int_name, bool_name, text_name}, Values.{Types, Has}}
use Rattle.basic_types.specs.declared.value.Value.TheVariants as value
use Rattle.syntax_trees.specs.{declared.syntax.Unary.{Unary}, declared.syntax.Unary.TheVariants.{Not, Minus}, declared.syntax.Binary.{Binary}, declared.syntax.Binary.TheVariants.{Add, Subtract, Multiply, Less, AtMost, Greater, AtLeast, Equal, Different, And, Or}, declared.syntax.Expr.{Expr}, declared.syntax.Expr.TheFolds.{fold-Expr}}
use Rattle.syntax_trees.specs.declared.syntax.Expr.TheOpen as layer
use Rattle.expressions.specs.{declared.sort.Sort.{Sort}, declared.sort.Sort.TheVariants.{Int, Bool as Truth, Text, Reference}, declared.typing.ExprType.{ExprType}, declared.typing.ExprType.TheVariants.{Null, Of}, Evaluation.{value as value_of}, Operators.{same_text}}

-- the sort of a value
abbrev pub value_sort : Value → Sort
value_sort (value.Int z) = Int
value_sort (value.Bool b) = Truth
value_sort (value.Text s) = Text
value_sort (value.Ref r) = Reference

-- the sort of the values of a type: three value types have one, by their names, and pointers are references
abbrev pub named_sort : List ℕ → Option Sort
named_sort name =
    if same_text name int_name then Some Int
    else if same_text name bool_name then Some Truth
    else if same_text name text_name then Some Text
    else None

abbrev pub declared_sort : QType → Option Sort
declared_sort t = if t.pointer then Some Reference else named_sort t.name

abbrev pub sort_of : ExprType → Option Sort
sort_of Null = Some Reference
sort_of (Of t) = declared_sort t

-- the type of the values of a sort; of references it is null's, which names no class
abbrev pub type_of_sort : Sort → ExprType
type_of_sort Int = Of (value_type int_name)
type_of_sort Truth = Of (value_type bool_name)
type_of_sort Text = Of (value_type text_name)
type_of_sort Reference = Null

-- what the operators take, and what they give
abbrev pub unary_sort : Unary → Sort → Option Sort
unary_sort Not Truth = Some Truth
unary_sort Minus Int = Some Int
unary_sort op s = None

abbrev pub binary_sort : Binary → Sort → Sort → Option Sort
binary_sort Add Int Int = Some Int
binary_sort Add Text Text = Some Text
binary_sort Subtract Int Int = Some Int
binary_sort Multiply Int Int = Some Int
binary_sort Less Int Int = Some Truth
binary_sort AtMost Int Int = Some Truth
binary_sort Greater Int Int = Some Truth
binary_sort AtLeast Int Int = Some Truth
binary_sort Equal Int Int = Some Truth
binary_sort Equal Truth Truth = Some Truth
binary_sort Equal Text Text = Some Truth
binary_sort Equal Reference Reference = Some Truth
binary_sort Different Int Int = Some Truth
binary_sort Different Truth Truth = Some Truth
binary_sort Different Text Text = Some Truth
binary_sort Different Reference Reference = Some Truth
binary_sort And Truth Truth = Some Truth
binary_sort Or Truth Truth = Some Truth
binary_sort op s t = None

-- a literal's type; no literal names an object
abbrev pub literal_type : Value → Option ExprType
literal_type (value.Ref (Some o)) = None
literal_type v = Some (type_of_sort (value_sort v))

-- the type of an expression from those of its parts, where `types` gives the declared types of its paths
abbrev pub type_step : {P : Type 0} → (P → Option QType) → layer.Expr-F P (Option ExprType) → Option ExprType
type_step types (layer.Literal v) = literal_type v
type_step types (layer.Path p) = option_map (λ t. Of t) (types p)
type_step types (layer.Unary op t) = option_map type_of_sort (option_and_then (unary_sort op) (option_and_then sort_of t))
type_step types (layer.Binary op t u) = option_map type_of_sort (option_and_then (λ a. option_and_then (binary_sort op a) (option_and_then sort_of u)) (option_and_then sort_of t))

abbrev pub type_of : {P : Type 0} → (P → Option QType) → Expr P → Option ExprType
type_of {P} types = fold-Expr P (Option ExprType) (type_step types)

-- A declared type accepts the same value type; a reference type accepts the references to its class or one below it,
-- but a const one only if it is const itself, and null.
abbrev pub AcceptsValue : QType → QType → Type 0
AcceptsValue declared given = (declared.pointer ≡ false) × (declared ≡ given)

abbrev pub AcceptsReference : (List ℕ → List ℕ → Type 0) → QType → QType → Type 0
AcceptsReference below declared given = (declared.pointer ≡ true) × (given.pointer ≡ true) × below given.name declared.name × ((declared.constant ≡ true) ⊎ (given.constant ≡ false))

abbrev pub Accepts : (List ℕ → List ℕ → Type 0) → QType → ExprType → Type 0
Accepts below declared Null = declared.pointer ≡ true
Accepts below declared (Of given) = AcceptsValue declared given ⊎ AcceptsReference below declared given

-- how the types of values are declared, where names stand for classes
abbrev pub declared_types : Types QType (List ℕ)
declared_types = record { number = value_type int_name; truth = value_type bool_name; text = value_type text_name; reference = pointer_type }

-- a value is of a type, where `class` gives the class of each living object; only null is of null's
abbrev pub IsOf : (ℕ → Option (List ℕ)) → (List ℕ → List ℕ → Type 0) → Value → ExprType → Type 0
IsOf class below v Null = v ≡ value.Ref None
IsOf class below v (Of t) = Has declared_types class below v t

abbrev pub HasValueOf : (ℕ → Option (List ℕ)) → (List ℕ → List ℕ → Type 0) → ExprType → Option Value → Type 0
HasValueOf class below t found = (v : Value) × (found ≡ Some v) × IsOf class below v t

-- every path with a type leads to a value of that type
abbrev pub TypedPaths : {P : Type 0} → (ℕ → Option (List ℕ)) → (List ℕ → List ℕ → Type 0) → (P → Option Value) → (P → Option QType) → Type 0
TypedPaths {P} class below read types = (p : P) (t : QType) → types p ≡ Some t → HasValueOf class below (Of t) (read p)

-- Whatever classes the objects have: where every path with a type leads to a value of that type, every expression with
-- a type has a value, and it is of that type.
abbrev pub TypedHaveValues : {P : Type 0} → (List ℕ → List ℕ → Type 0) → (P → Option Value) → (P → Option QType) → Type 0
TypedHaveValues {P} below read types =
    (class : ℕ → Option (List ℕ)) → TypedPaths class below read types →
    (z : Expr P) (t : ExprType) → type_of types z ≡ Some t → HasValueOf class below t (value_of read z)

-- whatever is of the given type is of the declared one
abbrev pub TakesValues : (List ℕ → List ℕ → Type 0) → QType → ExprType → Type 0
TakesValues below declared given =
    (class : ℕ → Option (List ℕ)) (v : Value) → IsOf class below v given → Has declared_types class below v declared

-- `this` in a body of a class
abbrev pub this_type : List ℕ → QType
this_type class = pointer_type class false

-- every object of the class or of one below it is of the type of `this`
abbrev pub ThisIsTyped : (List ℕ → List ℕ → Type 0) → Type 0
ThisIsTyped below =
    (class : ℕ → Option (List ℕ)) (object : ℕ) (own declaring : List ℕ) → class object ≡ Some own → below own declaring →
    Has declared_types class below (value.Ref (Some object)) (this_type declaring)
