-- What paths and expressions of a body give (docs/language.md, "Expressions").
use Rattle.std.specs.Prelude.{ℕ, List, Option, None, Some, slice_get}
use Rattle.std.specs.List.{fold}
use Rattle.std.specs.Option.{option_and_then, option_map}
use Rattle.basic_types.specs.declared.value.Value.{Value}
use Rattle.basic_types.specs.declared.value.Value.TheVariants as value
use Rattle.syntax_trees.specs.declared.syntax.Expr.{Expr}
use Rattle.expressions.specs.Evaluation
use Rattle.expressions.specs.Evaluation.{values}
use Rattle.meta_model.specs.declared.object.MetaPath.{MetaPath}
use Rattle.meta_model.specs.declared.object.MetaRoot.{MetaRoot}
use Rattle.meta_model.specs.declared.object.MetaRoot.TheVariants.{This, Parameter}
use Rattle.meta_model.specs.declared.object.Step.{Step}
use Rattle.meta_model.specs.Values.{default}
use Rattle.object_tree.specs.declared.object.Object.{Object}
use Rattle.object_tree.specs.Seen.{seen}
use Rattle.object_tree.specs.Objects.{stored}

-- `this` is the object o; a parameter is the argument in its place
abbrev pub root_value : ℕ → List Value → MetaRoot → Option Value
root_value o arguments This = Some (value.Ref (Some o))
root_value o arguments (Parameter k) = slice_get arguments k

-- the property of what a path has led to so far, as it reads; where that is null, the default of the property's type
abbrev pub step_value : List Object → Step → Value → Option Value
step_value objects s (value.Ref None) = Some (default s.kind)
step_value objects s (value.Ref (Some o)) = option_map (seen objects) (stored objects o s.property)
step_value objects s _ = None

-- the value that a path leads to, for the object o and the arguments of a call: each value on the way is read
abbrev pub path_value : List Object → ℕ → List Value → MetaPath → Option Value
path_value objects o arguments path =
    fold (λ found s. option_and_then (step_value objects s) found)
    (option_map (seen objects) (root_value o arguments path.root)) path.steps

-- the value that an expression has, for the object o and the arguments of a call
abbrev pub value_of : List Object → ℕ → List Value → Expr MetaPath → Option Value
value_of objects o arguments e = Evaluation.value (path_value objects o arguments) e

abbrev pub values_of : List Object → ℕ → List Value → List (Expr MetaPath) → Option (List Value)
values_of objects o arguments es = values (path_value objects o arguments) es

-- ---- a part of these, as the code does it

-- where these steps lead from what has been found
abbrev pub steps_value : List Object → List Step → Option Value → Option Value
steps_value objects steps found = fold (λ before s. option_and_then (step_value objects s) before) found steps
