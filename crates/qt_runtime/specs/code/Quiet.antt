-- What the code comes to with an event after which nothing is going on (docs/machine.md, "Events").
use Rattle.std.specs.Prelude.{◌≡◌, ℕ, ◌+◌, ◌<◌, ◌^◌, Bool, true, false, None, List, [], Result, Ok, Err}
use Rattle.meta_model.specs.Loaded.{Loaded}
use Rattle.object_tree.specs.{declared.fault.AdoptFault.{AdoptFault}, declared.fault.CreateFault.{CreateFault}}
use Rattle.object_tree.specs.declared.fault.AdoptFault.TheVariants as adopt
use Rattle.object_tree.specs.declared.fault.CreateFault.TheVariants as create
use Rattle.delete_later.specs.declared.fault.MoveFault.{MoveFault}
use Rattle.delete_later.specs.declared.fault.MoveFault.TheVariants as move
use Rattle.prop_bindings.specs.Fits.{Agree}
use Rattle.script_lang.specs.declared.event.Event.{Event}
use Rattle.script_lang.specs.declared.event.Event.TheVariants as event
use Rattle.trace_entries.specs.{declared.fault.Answer.{Answer}, declared.fault.Fault.{Fault}, declared.fault.Fault.TheVariants.{BadType, Memory}, declared.refusal.Refusal.{Refusal}, declared.refusal.Refusal.TheVariants.{NameUsed, NoClass, TooManyObjects, NotOwned, Cycle, OtherLoop, NoLoop, HasParent, Bound}}
use Rattle.trace_entries.specs.declared.fault.Answer.TheVariants as answer
use Rattle.machine_state.specs.{declared.world.World.{World}, State.{State}, Worlds.{at, after}, code.Changing.{Rejects}}
use Rattle.machine_rules.specs.{Good.{IsWell}, code.Sound.{IsSoundWorld}}
use Rattle.object_machine.specs.{declared.not_accepted.NotAccepted.{NotAccepted}, Events.{judged}, Takes.{IsRefusedAs}}
use Rattle.object_machine.specs.declared.not_accepted.NotAccepted.TheVariants as reason

-- what every machine's world keeps: the program is sound, its parts fit together, and no count is near its limit
pub record WorldInvariant (p : Loaded) (w : World) : Type 0 where
  pub sound : IsSoundWorld p w
  pub events : w.events + w.left < 2 ^ 63

-- the event is accepted, and what it does leaves nothing that goes on
pub record IsDone (p : Loaded) (w : World) (e : Event) (v : World) : Type 0 where
  pub state : State
  pub accepted : judged p (at w []) e (Ok state)
  pub empty : at (after w state) [] ≡ state
  pub agree : Agree p state.objects state.bindings
  pub no_turn : state.turn ≡ None
  pub gives : v ≡ after w state

-- why the run stops before the event: memory was refused, or it gives a property a value that is not of its type, and leaves
-- the bindings as they are
pub data Stops (p : Loaded) (w : World) (e : Event) : Fault → Type 0 where
  short : Stops p w e Memory
  ill : {t : State} → judged p (at w []) e (Ok t) → t.bindings ≡ w.store.bindings → (¬ IsWell p (at w []) t) → Stops p w e BadType

-- the event was taken with this answer, and nothing goes on; or the run stops, and nothing has changed
abbrev pub QuietCases : Loaded → World → Event → World → Result Answer Fault → Type 0
QuietCases p w e v (Ok answer.Done) = IsDone p w e v
QuietCases p w e v (Ok (answer.Refused n)) = IsRefusedAs p w e n v
QuietCases p w e v (Err f) = Stops p w e f × (v ≡ w)

pub record TookQuietly (p : Loaded) (w : World) (e : Event) (v : World) (result : Result Answer Fault) : Type 0 where
  pub cases : QuietCases p w e v result

-- what becomes of an event that isn't accepted
abbrev pub IsRefused : World → NotAccepted → World → Result Answer Fault → Type 0
IsRefused w (reason.Refused k) v result = Rejects w k v result
IsRefused w reason.Memory v result = (result ≡ Err Memory) × (v ≡ w)

-- why an event is refused, or the run stops, where no object is created
abbrev pub creation_reason : CreateFault → Result Refusal Fault
creation_reason create.NameUsed = Ok NameUsed
creation_reason create.NoClass = Ok NoClass
creation_reason create.TooMany = Ok TooManyObjects
creation_reason create.BadType = Err BadType
creation_reason create.Memory = Err Memory

-- why an event is refused, or the run stops, where an object isn't adopted
abbrev pub adoption_reason : AdoptFault → Result Refusal Fault
adoption_reason adopt.NotOwned = Ok NotOwned
adoption_reason adopt.Cycle = Ok Cycle
adoption_reason adopt.OtherLoop = Ok OtherLoop
adoption_reason adopt.Memory = Err Memory

-- why an event is refused, or the run stops, where no object moves
abbrev pub moving_reason : MoveFault → Result Refusal Fault
moving_reason move.NoLoop = Ok NoLoop
moving_reason move.HasParent = Ok HasParent
moving_reason move.Bound = Ok Bound
moving_reason move.Memory = Err Memory

-- the event that blocks an object or unblocks it
abbrev pub blocking : Bool → List ℕ → Event
blocking true name = event.Block name
blocking false name = event.Unblock name
