-- What holds in a run: an object lives as long as a body of it is active, the properties that are to be notified are
-- there as long as their objects live, and bodies are sound.
use Rattle.std.{proofs.Common.{◌≡◌, ℕ, eqb, Some, slice_get, ◌||◌, Bool, true, false, IsTrue, List, [], ◌∷◌, sym, subst, refl}, specs.List.{AllByRecursion}, proofs.lemmas.Bool.{eq-eqb}}
use Rattle.basic_types.specs.declared.value.Value.{Value}
use Rattle.meta_model.specs.{declared.effects.MetaEffects.{MetaEffects}, declared.object.MetaMethod.{MetaMethod}, declared.object.MetaProperty.{MetaProperty}, declared.object.Statement.TheViews.{out-Statement}, declared.object.ValueType.{ValueType}, Loaded.{Loaded}, Members.{IsMethod, IsProperty, Below}, Sound.{IsSoundStatement}}
use Rattle.native_slots.specs.declared.action.Action.{Action}
use Rattle.native_slots.specs.declared.action.Action.TheVariants as action
use Rattle.object_tree.specs.{declared.life.Life.{Life}, declared.object.Object.{Object}, Objects.{Lives}, Typed.{ReadAs}}
use Rattle.machine_state.specs.State.{Step, Run, Ask, Act, State, Activation, Body, Emit, Update, Destroy}
use Rattle.machine_rules.{specs.Good.{has_body}, specs.code.Keeps.{StayThere}, proofs.Soundness.{AllFit}, specs.code.Sound.{Sound}, specs.There.{IsDead}, specs.Writing.{MayNotify}, proofs.Dying.{lives-not-dead}, proofs.Keeps.{lives-on, values-stay}, proofs.Notifying.{all-may-still}, proofs.Hearing.{Heard}}

-- ---- what stands

-- a class has the property or the signal that an action of a native names
abbrev pub ActionStands : Loaded → ℕ → MetaEffects → Action → Type 0
ActionStands p c effects (action.Set k v) = (q : ℕ) × (property : MetaProperty) × (slice_get effects.sets k ≡ Some q) × IsProperty p c q property
ActionStands p c effects (action.Emit k given) = (g : ℕ) × (signal : MetaMethod) × (slice_get effects.emits k ≡ Some g) × IsMethod p c g signal

-- a step of a body: a statement is sound, and an action names what the object's class has
abbrev pub StepStands : Loaded → ℕ → ℕ → List ValueType → Step → Type 0
StepStands p c me types (Run x) = IsSoundStatement p me types (out-Statement x)
StepStands p c me types (Ask effects) = Unit {0}
StepStands p c me types (Act effects it) = ActionStands p c effects it

-- a body is of a living object, and what is left of it is sound for the arguments
pub record BodyStands (p : Loaded) (objects : List Object) (o : ℕ) (arguments : List Value) (left : List Step) : Type 0 where
  pub object : Object
  pub life : Life
  pub lives : Lives objects o object life
  pub declaring : ℕ
  pub below : Below p life.class declaring
  pub types : List ValueType
  pub typed : ReadAs p objects arguments types
  pub steps : AllByRecursion (StepStands p life.class declaring types) left

abbrev pub Stands : Loaded → List Object → Activation → Type 0
Stands p objects (Body o m arguments left) = BodyStands p objects o arguments left
Stands p objects (Emit o g arguments used last) = Unit {0}
Stands p objects (Update places) = AllByRecursion (MayNotify p objects) places
Stands p objects (Destroy next torn) = Unit {0}

-- the world is sound, what is going on stands, and emissions have the arguments of their signals and call nothing more once
-- their objects are dead
pub record Invariant (p : Loaded) (s : State) : Type 0 where
  pub sound : Sound p s.objects s.bindings s.connected.connections s.queues.loops
  pub stands : AllByRecursion (Stands p s.objects) s.stack
  pub emitted : AllFit p s.objects s.stack
  pub heard : Heard s

-- ---- it stands as long as no object dies that has a body

body-still : (p : Loaded) (old new : List Object) → StayThere old new → (o : ℕ) (arguments : List Value) (left : List Step) → (IsDead new o → IsDead old o) → BodyStands p old o arguments left → BodyStands p new o arguments left
body-still p old new stay o arguments left spared x =
    let y = lives-on old new o stay (λ gone. lives-not-dead x.lives (spared gone)) x.lives in
    let Classes : ℕ → Type 0 = λ k. Below p k x.declaring in
    let Steps : ℕ → Type 0 = λ k. AllByRecursion (StepStands p k x.declaring x.types) left in
    record {
      object = y.0;
      life = y.1;
      lives = y.2;
      declaring = x.declaring;
      below = subst Classes (sym y.3) x.below;
      types = x.types;
      typed = values-stay p stay arguments x.types x.typed;
      steps = subst Steps (sym y.3) x.steps;
    }

-- no object has died that has a body among these
abbrev pub SparedIn : List Activation → List Object → List Object → Type 0
SparedIn stack old new = (o : ℕ) → IsTrue (has_body o stack) → IsDead new o → IsDead old o

own-body : (o : ℕ) (other : Bool) → IsTrue (eqb o o || other)
own-body o other = by_test (eqb o o) (eq-eqb o o refl)
  where
    by_test : (b : Bool) → b ≡ true → IsTrue (b || other)
    by_test true e = refl
    by_test false e = absurd (cc e)

lower-body : (one other : Bool) → IsTrue other → IsTrue (one || other)
lower-body true other h = refl
lower-body false other h = h

pub all-stand-still : (p : Loaded) (old new : List Object) (stack : List Activation) → StayThere old new → SparedIn stack old new → AllByRecursion (Stands p old) stack → AllByRecursion (Stands p new) stack
all-stand-still p old new [] stay spared all = tt
all-stand-still p old new (Body o m arguments left ∷ below) stay spared all = (
  body-still p old new stay o arguments left (spared o (own-body o (has_body o below))) all.0,
  all-stand-still p old new below stay (λ k body. spared k (lower-body (eqb o k) (has_body k below) body)) all.1,
)
all-stand-still p old new (Emit o g arguments used last ∷ below) stay spared all = (tt, all-stand-still p old new below stay spared all.1)
all-stand-still p old new (Update places ∷ below) stay spared all =
    (all-may-still p old new places stay all.0, all-stand-still p old new below stay spared all.1)
all-stand-still p old new (Destroy next torn ∷ below) stay spared all = (tt, all-stand-still p old new below stay spared all.1)

-- what holds in a state
abbrev pub AllStand : Loaded → State → Type 0
AllStand p s = AllByRecursion (Stands p s.objects) s.stack
