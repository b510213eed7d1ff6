-- What the machine's code does with an event (docs/machine.md, "Events").
use Rattle.std.specs.Prelude.{◌≡◌, ℕ, ◌<◌, None, [], ◌∷◌, Result, Ok, Err}
use Rattle.meta_model.specs.Loaded.{Loaded}
use Rattle.prop_bindings.specs.declared.plans.fault.BindFault.{BindFault}
use Rattle.prop_bindings.specs.declared.plans.fault.BindFault.TheVariants as bind
use Rattle.native_slots.specs.Promises.{Takes}
use Rattle.script_lang.specs.declared.event.Event.{Event}
use Rattle.trace_entries.specs.declared.fault.Answer.{Answer}
use Rattle.trace_entries.specs.declared.fault.Answer.TheVariants as answer
use Rattle.trace_entries.specs.declared.fault.Fault.{Fault}
use Rattle.trace_entries.specs.declared.fault.Fault.TheVariants.{BadType, BindingLoop, Memory}
use Rattle.trace_entries.specs.declared.refusal.Refusal.{Refusal}
use Rattle.trace_entries.specs.declared.refusal.Refusal.TheVariants.{OtherLoop, BadSource}
use Rattle.machine_state.specs.declared.world.World.{World}
use Rattle.rule_interpreter.specs.declared.interpreter.Interpreter.{Interpreter}
use Rattle.machine_rules.specs.Natives.{NativeAnswers, KeepPromises}
use Rattle.object_machine.specs.Causes.{Completes, Halts}
use Rattle.object_machine.specs.Takes.{IsRefusedAs}
use Rattle.qt_runtime.specs.code.Quiet.{WorldInvariant}

-- a machine may take an event: its depth isn't 0, its natives keep what is declared of them, and nothing goes on in its world
pub record MayTake {N : Type 0} (takes : N → Takes) (gives : N → NativeAnswers) (interpreter : Interpreter N) (w : World) : Type 0 where
  pub depth : 0 < interpreter.context.depth
  pub promises : KeepPromises takes gives interpreter.context.meta interpreter.natives
  pub idle : w.turn ≡ None
  pub keeps : WorldInvariant interpreter.context.meta w

-- the event is refused for the reason of the answer's number, and only its line is written
abbrev pub SaysWhy : Loaded → World → Event → World → Answer → Type 0
SaysWhy p w e v answer.Done = Unit {0}
SaysWhy p w e v (answer.Refused n) = IsRefusedAs p w e n v

-- the event was taken with this answer, and the run went on to its end; or it stopped before or after that
abbrev pub TookCases : Loaded → NativeAnswers → ℕ → World → Event → World → Result Answer Fault → Type 0
TookCases p natives depth w e v (Ok a) = Completes p natives depth w (e ∷ []) (a ∷ []) v × SaysWhy p w e v a
TookCases p natives depth w e v (Err f) = Halts p natives depth w (e ∷ []) f v

pub record Took (p : Loaded) (natives : NativeAnswers) (depth : ℕ) (w : World) (e : Event) (v : World) (result : Result Answer Fault) : Type 0 where
  pub cases : TookCases p natives depth w e v result

-- the event was taken so in the interpreter of a run
abbrev pub TookBy : {N : Type 0} → (N → NativeAnswers) → Interpreter N → Event → World → World → Result Answer Fault → Type 0
TookBy gives interpreter e w v result = Took interpreter.context.meta (gives interpreter.natives) interpreter.context.depth w e v result

-- why an event is refused, or the run stops, where no binding is installed
abbrev pub binding_reason : BindFault → Result Refusal Fault
binding_reason bind.BadSource = Ok BadSource
binding_reason bind.OtherLoop = Ok OtherLoop
binding_reason bind.BadType = Err BadType
binding_reason bind.BindingLoop = Err BindingLoop
binding_reason bind.Memory = Err Memory
