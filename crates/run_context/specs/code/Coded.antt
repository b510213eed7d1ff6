-- What the code's words for the doings of statements mean (docs/machine.md, "Rules").
use Rattle.std.specs.Prelude.{◌≡◌, ◌≢◌, ℕ, Option, None, Some, Result, Ok, Err, Bool}
use Rattle.basic_types.specs.declared.value.Value.{Value}
use Rattle.basic_types.specs.declared.value.Value.TheVariants as value
use Rattle.expressions.specs.declared.evaluation.EvalFault.{EvalFault}
use Rattle.expressions.specs.declared.evaluation.EvalFault.TheVariants.{BadType, Memory as NoMemory}
use Rattle.machine_rules.specs.Operations.{Operation, Nothing}
use Rattle.meta_model.specs.declared.object.MetaEndpoints.{MetaEndpoints}
use Rattle.machine_state.specs.declared.endpoints.Endpoints.{Endpoints}
use Rattle.run_context.specs.code.Scope.{ends_in}
use Rattle.run_context.specs.declared.statements.paths.Scope.{Scope}

-- the path leads to an object or to null, or to neither
abbrev pub Finds : Option Value → Result (Option ℕ) EvalFault → Type 0
Finds found (Ok r) = found ≡ Some (value.Ref r)
Finds found (Err BadType) = (r : Option ℕ) → found ≢ Some (value.Ref r)
Finds found (Err NoMemory) = Unit {0}

-- the condition is a truth value, or none
abbrev pub FindsTruth : Option Value → Result Bool EvalFault → Type 0
FindsTruth found (Ok b) = found ≡ Some (value.Bool b)
FindsTruth found (Err BadType) = (b : Bool) → found ≢ Some (value.Bool b)
FindsTruth found (Err NoMemory) = Unit {0}

-- what is asked for was found out, or there is none, or memory was refused
abbrev pub Obtains : {X : Type 0} → Option X → Result X EvalFault → Type 0
Obtains found (Ok x) = found ≡ Some x
Obtains found (Err BadType) = found ≡ None
Obtains found (Err NoMemory) = Unit {0}

-- the paths of two ends lead to objects, or one of them to null, or to neither
abbrev pub FindsBetween : Scope → MetaEndpoints → Result (Option Endpoints) EvalFault → Type 0
FindsBetween scope ends (Ok (Some between)) = (act : Endpoints → Operation) → ends_in scope act ends ≡ Some (act between)
FindsBetween scope ends (Ok None) = (act : Endpoints → Operation) → ends_in scope act ends ≡ Some Nothing
FindsBetween scope ends (Err BadType) = (act : Endpoints → Operation) → ends_in scope act ends ≡ None
FindsBetween scope ends (Err NoMemory) = Unit {0}
