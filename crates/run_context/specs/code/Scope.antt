-- What a body gives in its scope: the objects, with what a group has written so far, the object whose body it is and the
-- arguments of its call (docs/language.md, "Expressions").
use Rattle.std.specs.Prelude.{◌≡◌, ℕ, List, Option, None, Some}
use Rattle.std.specs.Option.{option_copied}
use Rattle.indexmap.specs.IndexMap.{IndexMap}
use Rattle.basic_types.specs.declared.value.Value.{Value}
use Rattle.syntax_trees.specs.declared.syntax.Expr.{Expr}
use Rattle.meta_model.specs.declared.object.MetaEndpoints.{MetaEndpoints}
use Rattle.meta_model.specs.declared.object.MetaPath.{MetaPath}
use Rattle.meta_model.specs.declared.object.Statement.{Statement}
use Rattle.meta_model.specs.declared.object.Statement.TheOpen as layer
use Rattle.machine_state.specs.declared.endpoints.Endpoints.{Endpoints}
use Rattle.machine_rules.specs.Paths.{path_value, value_of, values_of}
use Rattle.machine_rules.specs.Operations.{Operation, on_ends}
use Rattle.run_context.specs.declared.statements.paths.Scope.{Scope}
use Rattle.object_tree.specs.declared.object.Object.{Object}
use Rattle.prop_bindings.specs.Plans.{assigned}
use Rattle.prop_bindings.specs.declared.plans.assignment.Assignment.{Assignment}
use Rattle.machine_rules.specs.Operations.{after_set, set_in, sets_in}

-- the objects with what a group has written so far, if there is one
abbrev pub overlaid : {S : Type 0} → Option (IndexMap (ℕ × ℕ) Value S) → List Object → List Object
overlaid None objects = objects
overlaid (Some values) objects = assigned values.entries objects

-- what a set writes is kept with what was written before it
abbrev pub KeepsSet : {S : Type 0} → IndexMap (ℕ × ℕ) Value S → Option Assignment → IndexMap (ℕ × ℕ) Value S → Type 0
KeepsSet old set new = (objects : List Object) → assigned new.entries objects ≡ after_set set (assigned old.entries objects)

-- the objects as they are read
abbrev pub objects_in : Scope → List Object
objects_in scope = overlaid (option_copied scope.written) scope.objects.now

-- the value that a path leads to
abbrev pub path_in : Scope → MetaPath → Option Value
path_in scope path = path_value (objects_in scope) scope.this scope.arguments.now path

-- the value of an expression, and of each of several
abbrev pub value_in : Scope → Expr MetaPath → Option Value
value_in scope e = value_of (objects_in scope) scope.this scope.arguments.now e

abbrev pub values_in : Scope → List (Expr MetaPath) → Option (List Value)
values_in scope es = values_of (objects_in scope) scope.this scope.arguments.now es

-- what is done with the objects that the paths of two ends lead to
abbrev pub ends_in : Scope → (Endpoints → Operation) → MetaEndpoints → Option Operation
ends_in scope act ends = on_ends act ends (path_in scope ends.sender) (path_in scope ends.receiver)

-- what a set writes, and those of a group
abbrev pub set_of : Scope → layer.Statement-F Statement → Option (Option Assignment)
set_of scope statement = set_in (objects_in scope) scope.this scope.arguments.now statement

abbrev pub sets_of : Scope → List Statement → Option (List (Option Assignment))
sets_of scope sets = sets_in (objects_in scope) scope.this scope.arguments.now sets
