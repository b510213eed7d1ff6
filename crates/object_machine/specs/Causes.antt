-- Why a machine stops (docs/machine.md, "Faults").
use Rattle.std.specs.Prelude.{◌≡◌, ℕ, ◌<◌, List, [], ◌∷◌, Ok}
use Rattle.script_lang.specs.declared.event.Event.{Event}
use Rattle.script_lang.specs.declared.event.Event.TheVariants.{Bind}
use Rattle.meta_model.specs.Loaded.{Loaded}
use Rattle.binding_graph.specs.declared.binding.Binding.{Binding}
use Rattle.binding_graph.specs.Bindings.{binding_at, replaced, Loop}
use Rattle.prop_bindings.specs.Fits.{IsFit}
use Rattle.trace_entries.specs.declared.fault.Fault.{Fault}
use Rattle.trace_entries.specs.declared.fault.Fault.TheVariants.{BadType, TooDeep, BindingLoop, InUse, Steps, Memory}
use Rattle.trace_entries.specs.declared.fault.Answer.{Answer}
use Rattle.machine_state.specs.declared.world.World.{World}
use Rattle.machine_state.specs.State.{State, Activation, IsIdle}
use Rattle.machine_state.specs.Worlds.{at}
use Rattle.machine_rules.specs.Natives.{NativeAnswers}
use Rattle.machine_rules.specs.Faults.{WritesDeep, GoesIll, GoesFatal, GoesDeep}
use Rattle.machine_rules.specs.Next.{LacksValue, WritesIll}
use Rattle.object_machine.specs.Runs.{RunsWhole, RunsPrefix, Follows, IsDue}
use Rattle.object_machine.specs.Events.{may_bind}

-- the next event asks that this binding be installed, which its judgement lets
pub record BindsNext (p : Loaded) (s : State) (events : List Event) (b : Binding) : Type 0 where
  pub idle : IsIdle s
  pub site : List ℕ
  pub target : List ℕ
  pub sources : List (List ℕ)
  pub rest : List Event
  pub is_next : events ≡ Bind site target sources ∷ rest
  pub may : may_bind p s site target sources (Ok b)

-- the next event asks for a binding whose expression has no value of the target's type. Where a bind may not be, no
-- state need follow in which all values are settled; so this is said of the binding.
pub record BindsIll (p : Loaded) (s : State) (events : List Event) : Type 0 where
  pub binding : Binding
  pub next : BindsNext p s events binding
  pub ill : ¬ IsFit p s.objects binding

-- the next event asks for a binding that has such a value, and a chain would lead from a property back to itself
pub record BindsLoop (p : Loaded) (s : State) (events : List Event) : Type 0 where
  pub binding : Binding
  pub next : BindsNext p s events binding
  pub fit : IsFit p s.objects binding
  pub closes : Loop (binding_at (replaced s.bindings binding))

-- What comes next brings this fault's bad moment: the statement or the event that is next, or the state that follows. Of
-- several faults it is the first of 60, 63, 62 and 61: at each of these it is said that those before it are not the case.
pub data Brings (p : Loaded) (natives : NativeAnswers) (depth : ℕ) (s : State) (events : List Event) : Fault → Type 0 where
  -- 60: a value is missing
  lacks_value : LacksValue s → Brings p natives depth s events BadType
  -- 60: a value is not of the type of the property or of the parameter that it is given to
  writes_ill : WritesIll p s → Brings p natives depth s events BadType
  binds_ill : BindsIll p s events → Brings p natives depth s events BadType
  goes_ill : GoesIll p s (λ t. Follows p natives s t events) → Brings p natives depth s events BadType
  -- 63: an object dies while a body of it is active
  goes_fatal : GoesFatal p s (λ t. Follows p natives s t events) → Brings p natives depth s events InUse
  -- 62: a chain of bindings closes
  binds_loop : BindsLoop p s events → Brings p natives depth s events BindingLoop
  -- 61: activations nest deeper than the depth
  writes_deep : WritesDeep p depth s → Brings p natives depth s events TooDeep
  goes_deep : GoesDeep p depth s (λ t. Follows p natives s t events) → Brings p natives depth s events TooDeep

-- why a run stops in a state, with so many rules left and these events: 64 exactly where no rule is left and one is due
pub data StopsFor (p : Loaded) (natives : NativeAnswers) (depth : ℕ) (s : State) (left : ℕ) (events : List Event) : Fault → Type 0 where
  spent : left ≡ 0 → IsDue s events → StopsFor p natives depth s left events Steps
  -- memory was refused
  short : 0 < left → IsDue s events → StopsFor p natives depth s left events Memory
  brings : {fault : Fault} → 0 < left → Brings p natives depth s events fault → StopsFor p natives depth s left events fault

-- ---- what the taking of events comes to

-- a whole run of these events, with these answers and without a bad moment, leads from one world to another
abbrev pub Completes : Loaded → NativeAnswers → ℕ → World → List Event → List Answer → World → Type 0
Completes p natives depth w events answers v =
    RunsWhole p natives depth (at w []) w.left events answers (at v []) v.left

-- A run of a front of them without a bad moment, which stops on the way for this fault: stores and trace are those of its
-- last state, and what comes next, or memory, is the cause.
pub record Halts (p : Loaded) (natives : NativeAnswers) (depth : ℕ) (w : World) (events : List Event) (f : Fault) (v : World)
    : Type 0 where
  pub stack : List Activation
  pub front : RunsPrefix p natives depth (at w []) w.left events (at v stack) v.left
  pub cause : StopsFor p natives depth (at v stack) v.left front.rest f
