-- That a state stops for one fault (docs/machine.md, "Faults").
use Rattle.std.specs.Prelude.{◌≡◌, ◌≢◌, ℕ, List}
use Rattle.meta_model.specs.Loaded.{Loaded}
use Rattle.meta_model.specs.Sound.{IsSound}
use Rattle.prop_bindings.specs.Fits.{Agree}
use Rattle.script_lang.specs.declared.event.Event.{Event}
use Rattle.trace_entries.specs.declared.fault.Fault.{Fault}
use Rattle.trace_entries.specs.declared.fault.Fault.TheVariants.{Memory}
use Rattle.machine_state.specs.State.{State}
use Rattle.machine_rules.specs.Natives.{NativeAnswers}
use Rattle.object_machine.specs.Causes.{StopsFor}

-- A state in which properties and bindings agree stops for one fault at most, with so many rules left and whatever events
-- come next. Only memory may be refused in place of another one.
abbrev pub OneFault : NativeAnswers → Type 0
OneFault natives =
    (p : Loaded) (depth : ℕ) (s : State) (left : ℕ) (next : List Event) (f g : Fault) → IsSound p → Agree p s.objects s.bindings →
    StopsFor p natives depth s left next f → StopsFor p natives depth s left next g → f ≢ Memory → g ≢ Memory → f ≡ g
