-- That rules have one answer, and that values stay settled (docs/machine.md, "Rules" and "Bindings").
use Rattle.std.specs.Prelude.{◌≡◌, ℕ}
use Rattle.meta_model.specs.Loaded.{Loaded}
use Rattle.prop_bindings.specs.Fits.{Agree}
use Rattle.machine_state.specs.State.{State}
use Rattle.machine_rules.specs.Good.{IsWell}
use Rattle.machine_rules.specs.Natives.{NativeAnswers, AnswersOnce}
use Rattle.machine_rules.specs.Rules.{Rule}
use Rattle.machine_rules.specs.code.Going.{GoodRules}

-- at most one state follows by a rule, where properties and bindings agree, if natives have one answer
abbrev pub OneRule : NativeAnswers → Type 0
OneRule natives =
    AnswersOnce natives → (p : Loaded) (s t u : State) → Agree p s.objects s.bindings → Rule p natives s t → Rule p natives s u → t ≡ u

-- what follows by a rule that gives no value of a wrong type keeps them in agreement: it settles the values again
abbrev pub RuleSettles : NativeAnswers → Type 0
RuleSettles natives =
    (p : Loaded) (s t : State) → Agree p s.objects s.bindings → Rule p natives s t → IsWell p s t → Agree p t.objects t.bindings

-- so in every state that rules without a bad moment lead to from one in which they agree, properties and bindings agree
abbrev pub StaysSettled : NativeAnswers → Type 0
StaysSettled natives =
    (p : Loaded) (depth : ℕ) (s t : State) (left after : ℕ) →
    Agree p s.objects s.bindings → GoodRules p natives depth s left t after → Agree p t.objects t.bindings
