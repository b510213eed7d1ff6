-- What holds of every run of a program with a valid settling certificate (docs/settling-proof.md, "The claims").
use Rattle.std.specs.{Prelude.{◌≡◌, ◌≢◌, ◌⊎◌, ◌+◌, ◌*◌, ◌<◌, ◌≤◌, ℕ, List, [], ◌∷◌, length, Option, Some}, List.{Contains}, Option.{option_map}}
use Rattle.basic_types.specs.declared.value.Value.{Value}
use Rattle.script_lang.specs.declared.event.Event.{Event}
use Rattle.meta_model.specs.{Loaded.{Loaded}, Sound.{IsSound}}
use Rattle.native_slots.specs.Promises.{Takes, Promises}
use Rattle.object_tree.specs.{declared.object.Object.{Object}, Objects.{class_of}, Seen.{seen}}
use Rattle.effect_scan.specs.{declared.node.Member.TheVariants.{Method, Property}, Nodes.{node, named}}
use Rattle.binding_graph.specs.declared.place.Place.{Place}
use Rattle.settling.specs.{declared.certificate.SettlingCertificate.{SettlingCertificate}, Sets.{IsIn}, Valid.{IsValid}}
use Rattle.trace_entries.specs.{declared.fault.Answer.{Answer}, declared.fault.Fault.{Fault}, declared.fault.Fault.TheVariants.{BadType, TooDeep}}
use Rattle.machine_state.specs.{State.{State, Activation, Body, Emit}, Worlds.{at, untouched}}
use Rattle.machine_rules.specs.{Good.{IsWell}, Natives.{NativeAnswers}}
use Rattle.object_machine.specs.{Causes.{StopsFor}, Checked.{IsLimit}, CheckedLaws.{IsFaultless}, Runs.{Run, Each, GoodRun, Follows}}
use Rattle.settled_runs.specs.Written.{values_of}

-- how deep activations nest at most: the bound, and the step for each object that was made
abbrev pub most_deep : SettlingCertificate → State → ℕ
most_deep certificate s = certificate.bound + certificate.step * length s.objects

-- This is so in every state to which a run without a bad moment comes from the beginning, however deep it may nest, whatever
-- events it has taken and whatever natives answer: of a program that loads and has a valid settling certificate.
abbrev pub InEachState : NativeAnswers → (Loaded → SettlingCertificate → (depth left : ℕ) → State → Type 0) → Type 0
InEachState natives Is =
    (p : Loaded) (certificate : SettlingCertificate) (s : State) (depth steps left : ℕ) (taken : List Event) (answers : List Answer) →
    IsSound p → IsValid p certificate → GoodRun p natives depth (at (untouched steps) []) steps taken answers s left →
    Is p certificate depth left s

-- activations nest no deeper than that
abbrev pub EachIsShallow : NativeAnswers → Type 0
EachIsShallow natives = InEachState natives (λ p certificate depth left s. length s.stack ≤ most_deep certificate s)

-- a run stops for a limit, for a value of a wrong type, or because its depth is less than that
pub data MayStop (depth most : ℕ) (fault : Fault) : Type 0 where
  limit : IsLimit fault → MayStop depth most fault
  ill : fault ≡ BadType → MayStop depth most fault
  too_deep : fault ≡ TooDeep → depth < most → MayStop depth most fault

-- so it never stops since a body's object died or a chain of bindings closed, whatever events come next
abbrev pub StopsForFew : NativeAnswers → Type 0
StopsForFew natives = InEachState natives (λ p certificate depth left s.
    (next : List Event) (fault : Fault) → StopsFor p natives depth s left next fault → MayStop depth (most_deep certificate s) fault)

-- ---- where natives keep their promise

-- A state that a run comes to, with so many rules left, in such a program, with natives that keep what it declares of them: from
-- the beginning, by whatever events. Nothing else is asked of the run.
pub record IsReached (accepts : Takes) (natives : NativeAnswers) (p : Loaded) (certificate : SettlingCertificate) (s : State) (left : ℕ) : Type 0 where
  pub sound : IsSound p
  pub valid : IsValid p certificate
  pub promises : Promises p accepts natives
  pub steps : ℕ
  pub taken : List Event
  pub answers : List Answer
  pub run : Run p natives (at (untouched steps) []) steps taken answers s left

-- each step of each run from there is faultless, and nests no deeper than that
abbrev pub EachRunIsFaultless : Takes → NativeAnswers → Type 0
EachRunIsFaultless accepts natives =
    (p : Loaded) (certificate : SettlingCertificate) (s t : State) (left after : ℕ) (events : List Event) (answers : List Answer) →
    IsReached accepts natives p certificate s left → (run : Run p natives s left events answers t after) →
    Each (λ u v. IsFaultless p (most_deep certificate v) u v) run

-- no rule is left, or memory was refused; or the depth is less than that
abbrev pub IsLimitAt : SettlingCertificate → (depth : ℕ) → State → Fault → Type 0
IsLimitAt certificate depth s fault = IsLimit fault ⊎ ((fault ≡ TooDeep) × (depth < most_deep certificate s))

-- a run stops for nothing else
abbrev pub StopsAtLimits : Takes → NativeAnswers → Type 0
StopsAtLimits accepts natives =
    (p : Loaded) (certificate : SettlingCertificate) (s : State) (left depth rules : ℕ) (next : List Event) (fault : Fault) →
    IsReached accepts natives p certificate s left → StopsFor p natives depth s rules next fault → IsLimitAt certificate depth s fault

-- ---- values

-- a method of a living object that is of the set, as its spelling names it, is called with this value alone
pub record IsMemberWith (p : Loaded) (certificate : SettlingCertificate) (k : ℕ) (objects : List Object) (o m : ℕ) (arguments : List Value) (v : Value) : Type 0 where
  pub class : ℕ
  pub lives : class_of objects o ≡ Some class
  pub is : IsIn p certificate k (node class (Method (named m)))
  pub passes : arguments ≡ v ∷ []

-- the activation is a body or an emission of it
abbrev pub IsActive : Loaded → SettlingCertificate → ℕ → List Object → Activation → Value → Type 0
IsActive p certificate k objects (Body o m arguments left) v = IsMemberWith p certificate k objects o m arguments v
IsActive p certificate k objects (Emit o g arguments used last) v = IsMemberWith p certificate k objects o g arguments v
IsActive p certificate k objects _ v = ⊥

-- those of one set carry one value, as it reads
abbrev pub CarriesOne : Loaded → SettlingCertificate → State → Type 0
CarriesOne p certificate s =
    (k : ℕ) (a b : Activation) (v w : Value) → Contains s.stack a → Contains s.stack b →
    IsActive p certificate k s.objects a v → IsActive p certificate k s.objects b w → seen s.objects v ≡ seen s.objects w

abbrev pub EachCarriesOne : NativeAnswers → Type 0
EachCarriesOne natives = InEachState natives (λ p certificate depth left s. CarriesOne p certificate s)

-- A place of an active set, in a living object, that comes to read otherwise has the value that the set carries; both are read
-- in the later state, since references to what died in between read as null.
abbrev pub reading : State → State → Place → Option Value
reading t s place = option_map (seen t.objects) (values_of s.objects place)

pub record IsLivingIn (p : Loaded) (certificate : SettlingCertificate) (k : ℕ) (objects : List Object) (place : Place) : Type 0 where
  pub class : ℕ
  pub lives : class_of objects place.object ≡ Some class
  pub is : IsIn p certificate k (node class (Property place.property))

abbrev pub ChangesToCarried : Loaded → SettlingCertificate → State → State → Type 0
ChangesToCarried p certificate s t =
    (k : ℕ) (a : Activation) (v : Value) (place : Place) → Contains s.stack a → IsActive p certificate k s.objects a v →
    IsLivingIn p certificate k t.objects place → reading t s place ≢ reading t t place → reading t t place ≡ Some (seen t.objects v)

-- so it is whatever follows and is well, by whatever events
abbrev pub EachChangesToCarried : NativeAnswers → Type 0
EachChangesToCarried natives = InEachState natives (λ p certificate depth left s.
    (t : State) (next : List Event) → Follows p natives s t next → IsWell p s t → ChangesToCarried p certificate s t)

-- ---- .. in each step

-- afterwards activations of one set carry one value, and what came to read otherwise has it
pub record IsCarried (p : Loaded) (certificate : SettlingCertificate) (s t : State) : Type 0 where
  pub carries : CarriesOne p certificate t
  pub changes : ChangesToCarried p certificate s t
