-- What every machine's world keeps.
use Rattle.std.proofs.Common.{◌≡◌, ℕ, List, [], false, ◌<◌, ◌^◌, None, Result, Ok, Err, refl, arith}
use Rattle.std.specs.Prelude.{IfOk}
use Rattle.std.specs.Result.{is_err}
use Rattle.script_lang.specs.declared.event.Event.{Event}
use Rattle.meta_model.specs.Loaded.{Loaded}
use Rattle.meta_model.specs.Sound.{IsSound}
use Rattle.binding_graph.specs.Bindings.{binding_at, Settled}
use Rattle.prop_bindings.specs.Values.{values_in}
use Rattle.trace_entries.specs.declared.fault.Answer.{Answer}
use Rattle.trace_entries.specs.declared.fault.Fault.{Fault}
use Rattle.machine_state.specs.declared.world.World.{World}
use Rattle.machine_state.specs.State.{Activation}
use Rattle.machine_state.specs.Worlds.{at, untouched}
use Rattle.machine_rules.specs.Natives.{NativeAnswers}
use Rattle.object_machine.specs.Runs.{done, GoodRun}
use Rattle.qt_runtime.specs.code.Quiet.{WorldInvariant}
use Rattle.qt_runtime.specs.code.Taking.{Took}
use Rattle.object_machine.proofs.Preservation.{runs-invariant}
use Rattle.object_machine.proofs.Keeping.{runs-pay, invariant-at, agree-none}

-- what a run keeps
keeps-run : {p : Loaded} {natives : NativeAnswers} {d : ℕ} {w v : World} {stack : List Activation} {es : List Event} {xs : List Answer} → IsSound p → WorldInvariant p w → GoodRun p natives d (at w []) w.left es xs (at v stack) v.left → WorldInvariant p v
keeps-run {w = w} sound keeps runs =
    let up = runs-invariant sound runs (invariant-at w keeps.sound) in
    let pays = runs-pay runs.run in
    record {
      sound = record {
        program = sound;
        is = record { agree = up.sound.agree; joined = up.sound.joined; housed = up.sound.housed; waiting = up.sound.waiting };
        numbers = omega (arith, keeps.sound.numbers, pays.connected);
        room = omega (arith, keeps.sound.room, pays.posted);
      };
      events = omega (arith, keeps.events, pays.events);
    }

pub keeps-took : {p : Loaded} {natives : NativeAnswers} {d : ℕ} {w v : World} {e : Event} (r : Result Answer Fault) → IsSound p → WorldInvariant p w → Took p natives d w e v r → is_err r ≡ false → WorldInvariant p v
keeps-took (Ok a) sound keeps took on = keeps-run sound keeps took.cases.0.runs
keeps-took (Err f) sound keeps took on = absurd (cc on)

-- .. so all values are settled after an event that was answered
pub settled-took : {p : Loaded} {natives : NativeAnswers} {d : ℕ} {w v : World} {e : Event} (r : Result Answer Fault) → IsSound p → WorldInvariant p w → Took p natives d w e v r → IfOk r (λ _. Settled (binding_at v.store.bindings) (values_in v.store.tree))
settled-took (Ok a) sound keeps took = (keeps-took (Ok a) sound keeps took refl).sound.is.agree.settled
settled-took (Err f) sound keeps took = tt

-- an event that was answered leaves no turn
pub idle-took : {p : Loaded} {natives : NativeAnswers} {d : ℕ} {w v : World} {e : Event} (r : Result Answer Fault) → Took p natives d w e v r → is_err r ≡ false → v.turn ≡ None
idle-took (Ok a) took on = took.cases.0.ends.no_turn
idle-took (Err f) took on = absurd (cc on)

-- a machine that has done nothing is sound
pub untouched-sound : (p : Loaded) (steps : ℕ) → IsSound p → steps < 2 ^ 63 → WorldInvariant p (untouched steps)
untouched-sound p steps program few = record {
  sound = record {
    program = program;
    is = record { agree = agree-none p; joined = tt; housed = record { has_main = omega arith; each = λ o home is. absurd (cc is) }; waiting = (tt, tt) };
    numbers = omega (arith, few);
    room = omega (arith, few);
  };
  events = omega (arith, few);
}
