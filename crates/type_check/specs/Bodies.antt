-- Typed bodies (docs/certificate.md, "Typing"). `me` is the class that declares a body's slot, `types` are the types of the
-- slot's parameters.
use Rattle.std.specs.Prelude.{◌≡◌, ℕ, false, List, Option, Some}
use Rattle.std.specs.List.{AllZip}
use Rattle.syntax_trees.specs.declared.syntax.Expr.{Expr}
use Rattle.meta_model.specs.declared.object.ValueType.{ValueType}
use Rattle.meta_model.specs.declared.object.ValueType.TheVariants as type
use Rattle.meta_model.specs.declared.object.MetaRoot.{MetaRoot}
use Rattle.meta_model.specs.declared.object.Step.{Step}
use Rattle.meta_model.specs.declared.object.MetaPath.{MetaPath}
use Rattle.meta_model.specs.declared.object.MetaMethod.{MetaMethod}
use Rattle.meta_model.specs.declared.object.MetaProperty.{MetaProperty}
use Rattle.meta_model.specs.declared.object.Statement.{Statement}
use Rattle.meta_model.specs.declared.object.Statement.TheOpen as layer
use Rattle.meta_model.specs.declared.object.Statement.TheViews.{out-Statement}
use Rattle.meta_model.specs.Loaded.{Loaded}
use Rattle.meta_model.specs.Members.{IsMethod, IsProperty}
use Rattle.effect_scan.specs.Effects.{Occurs}
use Rattle.effect_scan.specs.Paths.{of_root, of_last, of_path}
use Rattle.type_check.specs.Accepting.{IsGiven}

-- ---- paths
-- `this` is of the declaring class, anything else of its declared type
abbrev pub kind_of_root : ℕ → List ValueType → MetaRoot → Option ValueType
kind_of_root me types root = of_root (Some (type.Reference me false)) (λ kind. kind) types root

abbrev pub kind_after : ℕ → List ValueType → MetaRoot → Option Step → Option ValueType
kind_after me types root last = of_last (Some (type.Reference me false)) (λ kind. kind) types root last

abbrev pub kind_of_path : ℕ → List ValueType → MetaPath → Option ValueType
kind_of_path me types path = of_path (Some (type.Reference me false)) (λ kind. kind) types path

-- it leads to objects of class c, and isn't const
abbrev pub LeadsToMutable : ℕ → List ValueType → MetaPath → ℕ → Type 0
LeadsToMutable me types path c = kind_of_path me types path ≡ Some (type.Reference c false)

-- ---- statements
-- a parameter or a property of type T may be given the expression
abbrev pub IsGivenIn : Loaded → ℕ → List ValueType → ValueType → Expr MetaPath → Type 0
IsGivenIn p me types T e = IsGiven p (kind_of_path me types) T e

-- `set`: the path isn't const, and the property's type accepts the expression's
pub record IsTypedSet (p : Loaded) (me : ℕ) (types : List ValueType) (path : MetaPath) (q : ℕ) (e : Expr MetaPath) : Type 0 where
  pub class : ℕ
  pub leads : LeadsToMutable me types path class
  pub property : MetaProperty
  pub is : IsProperty p class q property
  pub given : IsGivenIn p me types property.kind e

-- the method's parameters accept the arguments, each its own
pub record AcceptsArguments (p : Loaded) (me : ℕ) (types : List ValueType) (c m : ℕ) (es : List (Expr MetaPath)) : Type 0 where
  pub method : MetaMethod
  pub is : IsMethod p c m method
  pub given : AllZip (IsGivenIn p me types) method.types es

-- `call`: the path isn't const, and the method accepts the arguments
pub record IsTypedCall (p : Loaded) (me : ℕ) (types : List ValueType) (path : MetaPath) (m : ℕ) (es : List (Expr MetaPath)) : Type 0 where
  pub class : ℕ
  pub leads : LeadsToMutable me types path class
  pub accepts : AcceptsArguments p me types class m es

-- `delete` and `later`: the path isn't const
pub record IsTypedDeletion (me : ℕ) (types : List ValueType) (path : MetaPath) : Type 0 where
  pub class : ℕ
  pub leads : LeadsToMutable me types path class

-- one statement; what is in the blocks of an `if` and in a group is looked at on its own
abbrev pub IsTypedStatement : Loaded → ℕ → List ValueType → layer.Statement-F Statement → Type 0
IsTypedStatement p me types (layer.Set path q e) = IsTypedSet p me types path q e
IsTypedStatement p me types (layer.Emit m es) = AcceptsArguments p me types me m es
IsTypedStatement p me types (layer.Call path m es) = IsTypedCall p me types path m es
IsTypedStatement p me types (layer.If e chosen other) = IsGivenIn p me types type.Bool e
IsTypedStatement p me types (layer.Connect ends how) = Unit {0}
IsTypedStatement p me types (layer.Disconnect ends) = Unit {0}
IsTypedStatement p me types (layer.Delete path) = IsTypedDeletion me types path
IsTypedStatement p me types (layer.Later path) = IsTypedDeletion me types path
IsTypedStatement p me types (layer.Group sets) = Unit {0}

abbrev pub IsUntyped : Loaded → ℕ → List ValueType → Statement → Type 0
IsUntyped p me types s = ¬ IsTypedStatement p me types (out-Statement s)

-- each statement of the body, in its blocks and groups too
abbrev pub IsTypedBody : Loaded → ℕ → List ValueType → List Statement → Type 0
IsTypedBody p me types body = (s : Statement) → Occurs s body → IsTypedStatement p me types (out-Statement s)
