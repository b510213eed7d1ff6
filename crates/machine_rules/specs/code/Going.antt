-- Rules that the code carries out, one after the other, and why it stops (docs/machine.md, "Runs").
use Rattle.std.specs.Prelude.{◌≡◌, ℕ, suc, ◌<◌, ◌⊎◌}
use Rattle.meta_model.specs.declared.effects.MetaEffects.{MetaEffects}
use Rattle.meta_model.specs.Loaded.{Loaded}
use Rattle.trace_entries.specs.declared.fault.Fault.{Fault}
use Rattle.trace_entries.specs.declared.fault.Fault.TheVariants.{BadType, TooDeep, BindingLoop, InUse, Steps, Memory, Stopped}
use Rattle.machine_state.specs.State.{State, IsIdle}
use Rattle.machine_rules.specs.Operations.{TakeAnswer}
use Rattle.machine_rules.specs.Faults.{WritesDeep, GoesIll, GoesFatal, GoesDeep}
use Rattle.machine_rules.specs.code.Lacking.{LacksFirst}
use Rattle.machine_rules.specs.Next.{DoesNext, WritesNext, WritesIll}
use Rattle.machine_rules.specs.Good.{IsGood}
use Rattle.machine_rules.specs.Natives.{NativeAnswers}
use Rattle.machine_rules.specs.Rules.{Rule}
use Rattle.machine_state.specs.Telling.{Assigning, writes_of}

-- From s, with so many rules left, to t, with so many left: the code tests what each rule would bring before it carries it
-- out, so each state follows the one before it by one rule, and none of them is a bad moment.
pub data GoodRules (p : Loaded) (natives : NativeAnswers) (depth : ℕ) : State → ℕ → State → ℕ → Type 0 where
  done : {s : State} {n : ℕ} → GoodRules p natives depth s n s n
  then : {s m t : State} {n k : ℕ} →
      Rule p natives s m → IsGood p depth s m → GoodRules p natives depth m n t k → GoodRules p natives depth s (suc n) t k

-- What is going on has no next rule; a step that writes, only where a property isn't there. A native that is to answer
-- isn't stuck, whatever it may answer.
pub record IsStuck (p : Loaded) (natives : NativeAnswers) (s : State) : Type 0 where
  pub goes_on : ¬ IsIdle s
  pub stuck : (t : State) → ¬ Rule p natives s t
  pub lacks : (what : Assigning) → WritesNext s what → LacksFirst p s.objects (writes_of what)
  pub asks_none : (effects : MetaEffects) → ¬ DoesNext s (TakeAnswer effects)

-- Why rules stop in a state, none of which binds a property: nothing follows, or what follows would give a value of a wrong
-- type; an object would die while a body of it is active; activations would nest too deep; no rule is left where one is due;
-- memory was refused where a rule is due.
abbrev pub RulesStop : Loaded → NativeAnswers → ℕ → State → ℕ → Fault → Type 0
RulesStop p natives depth s left BadType =
    (0 < left) × (IsStuck p natives s ⊎ (WritesIll p s ⊎ GoesIll p s (λ t. Rule p natives s t)))
RulesStop p natives depth s left InUse = (0 < left) × GoesFatal p s (λ t. Rule p natives s t)
RulesStop p natives depth s left TooDeep =
    (0 < left) × (WritesDeep p depth s ⊎ GoesDeep p depth s (λ t. Rule p natives s t))
RulesStop p natives depth s left Steps = (left ≡ 0) × (¬ IsIdle s)
RulesStop p natives depth s left Memory = (0 < left) × (¬ IsIdle s)
RulesStop p natives depth s left BindingLoop = ⊥
RulesStop p natives depth s left Stopped = ⊥
