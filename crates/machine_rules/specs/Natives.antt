-- What natives answer (docs/machine.md, "Natives").
use Rattle.std.specs.Prelude.{◌≡◌, ℕ, List, Some, slice_get}
use Rattle.std.specs.List.{AllZip}
use Rattle.basic_types.specs.declared.sig.Sig.{Sig}
use Rattle.basic_types.specs.declared.value.Value.{Value}
use Rattle.meta_model.specs.declared.object.MetaMethod.{MetaMethod}
use Rattle.meta_model.specs.declared.object.MetaObject.{MetaObject}
use Rattle.meta_model.specs.declared.object.MetaProperty.{MetaProperty}
use Rattle.meta_model.specs.Loaded.{Loaded}
use Rattle.meta_model.specs.Members.{IsClass, IsMethod, base_of}
use Rattle.object_tree.specs.declared.object.Object.{Object}
use Rattle.object_tree.specs.Objects.{stored}
use Rattle.meta_model.specs.declared.effects.MetaEffects.{MetaEffects}
use Rattle.native_slots.specs.declared.action.Action.{Action}
use Rattle.native_slots.specs.declared.action.Action.TheVariants as action
use Rattle.native_slots.specs.Promises.{Takes, Promises}
use Rattle.trace_entries.specs.declared.entry.ShownAction.{ShownAction}
use Rattle.trace_entries.specs.declared.entry.ShownAction.TheVariants as show
use Rattle.machine_state.specs.Objects.{shown, all_shown}
use Rattle.machine_rules.specs.There.{IsMember, IsField}

-- Which lists of actions a native may answer: of the name of the class that declares it, its signature, its arguments, and
-- the present values of the properties that it reads.
abbrev pub NativeAnswers : Type 1
NativeAnswers = List ℕ → Sig → List Value → List Value → List Action → Type 0

-- these natives keep what the program declares of them: they may be called so, and answer within their effects
abbrev pub KeepPromises : {N : Type 0} → (N → Takes) → (N → NativeAnswers) → Loaded → N → Type 0
KeepPromises takes gives p natives = Promises p (takes natives) (gives natives)

-- natives have one answer to one question
abbrev pub AnswersOnce : NativeAnswers → Type 0
AnswersOnce gives =
    (class : List ℕ) (sig : Sig) (arguments reads : List Value) (a b : List Action) →
    gives class sig arguments reads a → gives class sig arguments reads b → a ≡ b

-- the class that declares method m of a class: this one, unless its base has the method
pub data DeclaredBy (p : Loaded) (m : ℕ) : ℕ → ℕ → Type 0 where
  own : {c : ℕ} → ((b : ℕ) (method : MetaMethod) → base_of p c ≡ Some b → ¬ IsMethod p b m method) → DeclaredBy p m c c
  inherited : {c b d : ℕ} {method : MetaMethod} → base_of p c ≡ Some b → IsMethod p b m method → DeclaredBy p m b d → DeclaredBy p m c d

-- the native that is method m of object o may answer these actions
pub record MayAnswer (p : Loaded) (natives : NativeAnswers) (objects : List Object) (o m : ℕ) (arguments : List Value)
    (effects : MetaEffects) (actions : List Action) : Type 0 where
  pub object : Object
  pub method : MetaMethod
  pub is : IsMember p objects o m object method
  pub number : ℕ
  pub declared : DeclaredBy p m is.life.class number
  pub class : MetaObject
  pub is_class : IsClass p number class
  pub reads : List Value
  pub are_read : AllZip (λ q value. stored objects o q ≡ Some value) effects.reads reads
  pub gives : natives class.name method.sig arguments reads actions

-- an action of an answer is written down so: with the name of the property or the signal
pub data IsShownAs (p : Loaded) (objects : List Object) (o : ℕ) (effects : MetaEffects) : Action → ShownAction → Type 0 where
  set_shown : {k q : ℕ} {value : Value} {x : Object} {property : MetaProperty} →
      slice_get effects.sets k ≡ Some q → IsField p objects o q x property →
      IsShownAs p objects o effects (action.Set k value) (show.Set property.name (shown objects value))
  emit_shown : {k g : ℕ} {arguments : List Value} {x : Object} {signal : MetaMethod} →
      slice_get effects.emits k ≡ Some g → IsMember p objects o g x signal →
      IsShownAs p objects o effects (action.Emit k arguments) (show.Emit signal.sig.name (all_shown objects arguments))

-- ---- parts of these, each as the code does it

-- these are the present values of properties of an object
abbrev pub AreRead : List Object → ℕ → List ℕ → List Value → Type 0
AreRead objects o properties values = AllZip (λ q value. stored objects o q ≡ Some value) properties values

-- each of a list of actions is written down so
abbrev pub AreShownAs : Loaded → List Object → ℕ → MetaEffects → List Action → List ShownAction → Type 0
AreShownAs p objects o effects actions lines = AllZip (IsShownAs p objects o effects) actions lines
