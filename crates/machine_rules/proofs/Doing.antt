-- What the body on top does next, part by part.
use Rattle.std.proofs.Common.{◌≡◌, ℕ, List, [], ◌∷◌, Option, Some, None, refl, sym, ap, ◌∙◌, subst}
use Rattle.std.specs.Prelude.{MatchOption}
use Rattle.basic_types.specs.declared.value.Value.{Value}
use Rattle.meta_model.specs.declared.object.Statement.{Statement}
use Rattle.meta_model.specs.declared.object.Statement.TheViews.{out-Statement}
use Rattle.machine_state.specs.State.{Step, Run, Ask, Act, State, Activation, Body, Emit, Update, Destroy}
use Rattle.meta_model.specs.Loaded.{Loaded}
use Rattle.machine_rules.specs.Natives.{NativeAnswers}
use Rattle.machine_rules.specs.Rules.{BodyRule, Does, StepRule}
use Rattle.machine_rules.specs.Next.{DoesNext, LacksValue, LacksAt, next_operation}
use Rattle.machine_rules.specs.Operations.{Operation, operation, operation_of_step}

-- what is going on is a body whose next step does this
pub record Doing (s : State) (what : Operation) : Type 0 where
  pub object : ℕ
  pub method : ℕ
  pub arguments : List Value
  pub step : Step
  pub rest : List Step
  pub below : List Activation
  pub is_next : s.stack ≡ Body object method arguments (step ∷ rest) ∷ below
  pub does : operation_of_step s.objects object arguments step ≡ Some what

pub doing : (s : State) {what : Operation} → DoesNext s what → Doing s what
doing s {what} next = at s.stack refl next
  where
    at : (stack : List Activation) → s.stack ≡ stack → next_operation s.objects stack ≡ Some what → Doing s what
    at [] is e = let no : None ≡ Some what = e in absurd (cc no)
    at (Body o m arguments [] ∷ below) is e = let no : None ≡ Some what = e in absurd (cc no)
    at (Body o m arguments (step ∷ rest) ∷ below) is e = record { object = o; method = m; arguments = arguments; step = step; rest = rest; below = below; is_next = is; does = e }
    at (Emit o g arguments used last ∷ below) is e = let no : None ≡ Some what = e in absurd (cc no)
    at (Update places ∷ below) is e = let no : None ≡ Some what = e in absurd (cc no)
    at (Destroy next torn ∷ below) is e = let no : None ≡ Some what = e in absurd (cc no)

pub does-next : (s : State) {o m : ℕ} {arguments : List Value} {step : Step} {rest : List Step} {below : List Activation} {what : Operation} → s.stack ≡ Body o m arguments (step ∷ rest) ∷ below → operation_of_step s.objects o arguments step ≡ Some what → DoesNext s what
does-next s {what = what} is does = subst (λ (l : List Activation). next_operation s.objects l ≡ Some what) (sym is) does

-- ---- the rule of a step

module _ (p : Loaded) (natives : NativeAnswers) (s : State) (o m : ℕ) (arguments : List Value) (step : Step) (rest : List Step) (below : List Activation) (t : State) where
  abbrev Carried : Option Operation → Type 0
  Carried found = MatchOption found ⊥ (λ what. Does p natives s o m arguments rest below what t)

  pub step-of : BodyRule p natives s o m arguments below t (step ∷ rest) → StepRule p natives s o m arguments step rest below t
  step-of rule = by_found (operation_of_step s.objects o arguments step) refl rule
    where
      by_found : (found : Option Operation) → operation_of_step s.objects o arguments step ≡ found → Carried found → StepRule p natives s o m arguments step rest below t
      by_found None is none = absurd none
      by_found (Some what) is does = record { what = what; is = is; does = does }

  pub step-rule : StepRule p natives s o m arguments step rest below t → BodyRule p natives s o m arguments below t (step ∷ rest)
  step-rule r = subst Carried (sym r.is) r.does

-- ---- what lacks a value

-- what is going on is a body whose next statement lacks a value
pub record Lacking (s : State) : Type 0 where
  pub object : ℕ
  pub method : ℕ
  pub arguments : List Value
  pub statement : Statement
  pub rest : List Step
  pub below : List Activation
  pub is_next : s.stack ≡ Body object method arguments (Run statement ∷ rest) ∷ below
  pub lacks : operation s.objects object arguments (out-Statement statement) ≡ None

pub lacking : (s : State) → LacksValue s → Lacking s
lacking s value = at s.stack refl value
  where
    at : (stack : List Activation) → s.stack ≡ stack → LacksAt s.objects stack → Lacking s
    at [] is e = absurd e
    at (Body o m arguments [] ∷ below) is e = absurd e
    at (Body o m arguments (Run statement ∷ rest) ∷ below) is e = record { object = o; method = m; arguments = arguments; statement = statement; rest = rest; below = below; is_next = is; lacks = e }
    at (Body o m arguments (Ask effects ∷ rest) ∷ below) is e = absurd e
    at (Body o m arguments (Act effects it ∷ rest) ∷ below) is e = absurd e
    at (Emit o g arguments used last ∷ below) is e = absurd e
    at (Update places ∷ below) is e = absurd e
    at (Destroy next torn ∷ below) is e = absurd e

pub lacks-value : (s : State) {o m : ℕ} {arguments : List Value} {statement : Statement} {rest : List Step} {below : List Activation} → s.stack ≡ Body o m arguments (Run statement ∷ rest) ∷ below → operation s.objects o arguments (out-Statement statement) ≡ None → LacksValue s
lacks-value s is lacks = subst (λ (l : List Activation). LacksAt s.objects l) (sym is) lacks

-- what does something lacks no value
pub lacks-nothing : (s : State) {what : Operation} → LacksValue s → DoesNext s what → ⊥
lacks-nothing s {what} value next =
    let it = lacking s value in
    let none : next_operation s.objects s.stack ≡ None = ap (λ (l : List Activation). next_operation s.objects l) it.is_next ∙ it.lacks in
    let no : None ≡ Some what = sym none ∙ next in
    absurd (cc no)
