-- What an event pushes runs to its end, or stops on the way.
use Rattle.std.proofs.Common.{◌≡◌, ℕ, ◌-◌, ◌<◌, [], ◌∷◌, None, Result, Ok, Err, OnOk, MatchResult, refl, List}
use Rattle.script_lang.specs.declared.event.Event.{Event}
use Rattle.meta_model.specs.Loaded.{Loaded}
use Rattle.trace_entries.specs.declared.fault.Answer.TheVariants as answer
use Rattle.trace_entries.specs.declared.fault.Fault.{Fault}
use Rattle.machine_state.specs.{declared.world.World.{World}, State.{State, Activation}, Worlds.{at}}
use Rattle.machine_rules.{specs.Natives.{NativeAnswers}, specs.Good.{IsGood}, specs.code.Going.{GoodRules, RulesStop}, specs.Reaches.{RunsTo}, specs.code.Sound.{IsSoundWorld}, proofs.Keeps.{rules-kept}}
use Rattle.object_machine.{specs.Causes.{Halts}, specs.Takes.{Takes}, proofs.Keeping.{invariant-at}, proofs.Preservation.{runs-invariant}, proofs.Progress.{cause-of}}
use Rattle.qt_runtime.{specs.code.Taking.{Took}, proofs.Taken.{idle, runs-taken}}

-- the event was taken, and rules stopped on the way
stopped-after : {p : Loaded} {natives : NativeAnswers} {d n : ℕ} {w v : World} {m : State} {f : Fault} (e : Event) (stack : List Activation) → IsSoundWorld p w → Takes p e answer.Done (at w []) m → IsGood p d (at w []) m → 0 < w.left → n ≡ w.left - 1 → GoodRules p natives d m n (at v stack) v.left → RulesStop p natives d (at v stack) v.left f → Halts p natives d w (e ∷ []) f v
stopped-after {p} {natives} {d} {w = w} {v = v} {f = f} e stack sound x good some less went why =
    let runs = runs-taken e x good some less went in
    let up = runs-invariant sound.program runs (invariant-at w sound) in
    record {
      stack = stack;
      front = record { taken = e ∷ []; rest = []; split = refl; answers = answer.Done ∷ []; runs = runs };
      cause = cause-of sound.program up natives d v.left [] f why;
    }

pub took-run : {p : Loaded} {natives : NativeAnswers} {d : ℕ} {w m v : World} {top : Activation} {r : Result (Unit {0}) Fault} (e : Event) → IsSoundWorld p w → Takes p e answer.Done (at w []) (at m (top ∷ [])) → IsGood p d (at w []) (at m (top ∷ [])) → 0 < w.left → m.left ≡ w.left - 1 → m.turn ≡ None → RunsTo p natives d [] m (top ∷ []) v [] r → MatchResult r (λ _. Took p natives d w e v (Ok answer.Done)) (λ f. Halts p natives d w (e ∷ []) f v)
took-run {v = v} {r = Ok _} e sound x good some less none ends = record { cases = (record { runs = runs-taken e x good some less (ends.cases.runs [] refl); ends = idle v ((rules-kept (ends.cases.runs [] refl)).no_turn none) }, tt) }
took-run {r = Err f} e sound x good some less none ends =
    let q = ends.cases.stops [] refl in
    stopped-after e q.0 sound x good some less q.1 q.2

-- a turn runs to its end, or stops on the way
pub took-turn : {p : Loaded} {natives : NativeAnswers} {d : ℕ} {w m v : World} {r : Result (Unit {0}) Fault} (e : Event) → IsSoundWorld p w → Takes p e answer.Done (at w []) (at m []) → IsGood p d (at w []) (at m []) → 0 < w.left → m.left ≡ w.left - 1 → RunsTo p natives d [] m [] v [] r → OnOk r (v.turn ≡ None) → MatchResult r (λ _. Took p natives d w e v (Ok answer.Done)) (λ f. Halts p natives d w (e ∷ []) f v)
took-turn {v = v} {r = Ok _} e sound x good some less ends over = record { cases = (record { runs = runs-taken e x good some less (ends.cases.runs [] refl); ends = idle v over }, tt) }
took-turn {r = Err f} e sound x good some less ends over =
    let q = ends.cases.stops [] refl in
    stopped-after e q.0 sound x good some less q.1 q.2
