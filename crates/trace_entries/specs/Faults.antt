-- The numbers of faults (docs/commands.md, "Faults").
use Rattle.std.specs.Prelude.{◌≡◌, ℕ}
use Rattle.expressions.specs.declared.evaluation.EvalFault.{EvalFault}
use Rattle.expressions.specs.declared.evaluation.EvalFault.TheVariants.{BadType as HasNone, Memory as NoMemory}
use Rattle.trace_entries.specs.declared.fault.Fault.{Fault}
use Rattle.trace_entries.specs.declared.fault.Fault.TheVariants.{BadType, TooDeep, BindingLoop, InUse, Steps, Memory, Stopped}

abbrev pub number_of : Fault → ℕ
number_of BadType = 60
number_of TooDeep = 61
number_of BindingLoop = 62
number_of InUse = 63
number_of Steps = 64
number_of Memory = 65
number_of Stopped = 66

-- the fault that the machine has where an expression has this one
abbrev pub IsFaultOf : EvalFault → Fault → Type 0
IsFaultOf HasNone fault = fault ≡ BadType
IsFaultOf NoMemory fault = fault ≡ Memory
