-- What may be given an expression (docs/language.md, "Types"; docs/certificate.md, "Typing").
use Rattle.std.specs.Prelude.{◌≡◌, Option, Some}
use Rattle.std.specs.Option.{option_and_then}
use Rattle.basic_types.specs.declared.qtype.QType.{QType}
use Rattle.syntax_trees.specs.declared.syntax.Expr.{Expr}
use Rattle.expressions.specs.declared.typing.ExprType.{ExprType}
use Rattle.expressions.specs.Typing.{type_of, Accepts}
use Rattle.meta_model.specs.declared.object.ValueType.{ValueType}
use Rattle.meta_model.specs.Loaded.{Loaded}
use Rattle.type_check.specs.Naming.{BelowNamed, spelled}

-- there is a type, and it is one that the type T accepts
pub record Takes (p : Loaded) (T : ValueType) (found : Option ExprType) : Type 0 where
  pub given : ExprType
  pub is : found ≡ Some given
  pub declared : QType
  pub named : spelled p T ≡ Some declared
  pub accepts : Accepts (BelowNamed p) declared given

-- the declared types of paths by name, where `types` gives them by number
abbrev pub spelled_types : {P : Type 0} → Loaded → (P → Option ValueType) → P → Option QType
spelled_types p types path = option_and_then (spelled p) (types path)

-- the expression has a type that the type T accepts, where `types` gives the declared types of its paths
abbrev pub IsGiven : {P : Type 0} → Loaded → (P → Option ValueType) → ValueType → Expr P → Type 0
IsGiven p types T e = Takes p T (type_of (spelled_types p types) e)
