-- What rules keep (docs/machine.md, "Rules").
use Rattle.std.specs.Prelude.{ℕ}
use Rattle.meta_model.specs.Loaded.{Loaded}
use Rattle.machine_state.specs.State.{State}
use Rattle.machine_rules.specs.Natives.{NativeAnswers}
use Rattle.machine_rules.specs.code.Going.{GoodRules}
use Rattle.machine_rules.specs.code.Keeps.{Keeps}

-- from one state to another that rules without a bad moment lead to: objects stay there, the trace grows, numbers go up
abbrev pub RulesKeep : NativeAnswers → Type 0
RulesKeep natives =
    (p : Loaded) (depth : ℕ) (s t : State) (left after : ℕ) → GoodRules p natives depth s left t after → Keeps p s left t after
