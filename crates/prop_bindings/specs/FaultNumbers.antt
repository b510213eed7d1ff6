-- The numbers of refusals and faults of bindings (docs/commands.md).
use Rattle.std.specs.Prelude.{ℕ, Option, None, Some}
use Rattle.expressions.specs.declared.evaluation.EvalFault.{EvalFault}
use Rattle.expressions.specs.declared.evaluation.EvalFault.TheVariants as eval
use Rattle.prop_bindings.specs.declared.plans.fault.BindFault.{BindFault}
use Rattle.prop_bindings.specs.declared.plans.fault.BindFault.TheVariants.{BadSource, OtherLoop, BadType, BindingLoop, Memory}

-- the number of a refusal; the others are faults of the run
abbrev pub refusal_number : BindFault → Option ℕ
refusal_number BadSource = Some 44
refusal_number OtherLoop = Some 36
refusal_number BadType = None
refusal_number BindingLoop = None
refusal_number Memory = None

-- the fault of a binding whose expression has no value
abbrev pub fault_of : EvalFault → BindFault
fault_of eval.BadType = BadType
fault_of eval.Memory = Memory
