-- How runs with events are put together.
use Rattle.std.proofs.Common.{ℕ, List, [], ◌++◌}
use Rattle.script_lang.specs.declared.event.Event.{Event}
use Rattle.meta_model.specs.Loaded.{Loaded}
use Rattle.trace_entries.specs.declared.fault.Answer.{Answer}
use Rattle.machine_state.specs.State.{State}
use Rattle.machine_rules.specs.Good.{IsGood}
use Rattle.machine_rules.specs.Natives.{NativeAnswers}
use Rattle.machine_rules.specs.code.Going.{GoodRules}
use Rattle.machine_rules.specs.code.Going as of_rules
use Rattle.object_machine.specs.Runs.{Run, done, goes, takes, Each, GoodRun}

pub run-trans : {p : Loaded} {natives : NativeAnswers} {s m t : State} {n k j : ℕ} {es fs : List Event} {xs ys : List Answer} → Run p natives s n es xs m k → Run p natives m k fs ys t j → Run p natives s n (es ++ fs) (xs ++ ys) t j
run-trans done y = y
run-trans (goes x rest) y = goes x (run-trans rest y)
run-trans (takes x rest) y = takes x (run-trans rest y)

-- what holds of each step of two runs does so of each step of both, one after the other
pub each-trans : (Holds : State → State → Type 0) {p : Loaded} {natives : NativeAnswers} {s m t : State} {n k j : ℕ} {es fs : List Event} {xs ys : List Answer} (x : Run p natives s n es xs m k) (y : Run p natives m k fs ys t j) → Each Holds x → Each Holds y → Each Holds (run-trans x y)
unfolding run-trans
each-trans Holds done y a b = b
each-trans Holds (goes x rest) y a b = (a.0, each-trans Holds rest y a.1 b)
each-trans Holds (takes x rest) y a b = (a.0, each-trans Holds rest y a.1 b)

-- .. and so does what follows from it
pub each-weaker : (P Q : State → State → Type 0) → ((s t : State) → P s t → Q s t) → {p : Loaded} {natives : NativeAnswers} {s t : State} {n k : ℕ} {es : List Event} {xs : List Answer} (r : Run p natives s n es xs t k) → Each P r → Each Q r
each-weaker P Q next done all = tt
each-weaker P Q next (goes {s = s} {m = m} x rest) all = (next s m all.0, each-weaker P Q next rest all.1)
each-weaker P Q next (takes {s = s} {m = m} x rest) all = (next s m all.0, each-weaker P Q next rest all.1)

pub runs-trans : {p : Loaded} {natives : NativeAnswers} {d : ℕ} {s m t : State} {n k j : ℕ} {es fs : List Event} {xs ys : List Answer} → GoodRun p natives d s n es xs m k → GoodRun p natives d m k fs ys t j → GoodRun p natives d s n (es ++ fs) (xs ++ ys) t j
runs-trans {p} {d = d} x y = record { run = run-trans x.run y.run; good = each-trans (IsGood p d) x.run y.run x.good y.good }

-- rules alone are a run that takes no event
pub rules-run : {p : Loaded} {natives : NativeAnswers} {d : ℕ} {s t : State} {n k : ℕ} → GoodRules p natives d s n t k → GoodRun p natives d s n [] [] t k
rules-run of_rules.done = record { run = done; good = tt }
rules-run (of_rules.then x ok rest) = let more = rules-run rest in record { run = goes x more.run; good = (ok, more.good) }
