-- What the code finds of an event that is accepted (docs/machine.md, "Events").
use Rattle.std.specs.Prelude.{◌≡◌, ℕ, List, [], length, Ok}
use Rattle.basic_types.specs.declared.value.Value.{Value}
use Rattle.meta_model.specs.{declared.site.MetaSite.{MetaSite}, Loaded.{Loaded}}
use Rattle.object_tree.specs.declared.life.Life.{Life}
use Rattle.syntax_trees.specs.{declared.connection.ConnectionType.{ConnectionType}, declared.connection.Endpoints.{Endpoints as Named}}
use Rattle.script_lang.specs.{declared.event.Event.{Event}, declared.event.Input.{Input}}
use Rattle.script_lang.specs.declared.event.Event.TheVariants as event
use Rattle.binding_graph.specs.declared.place.Place.{Place}
use Rattle.machine_state.specs.{declared.endpoints.Endpoints.{Endpoints}, declared.world.World.{World}, Accepting.{accepted}, State.{State}, Telling.{Alone}, Worlds.{at, with_connection, without_connections}}
use Rattle.machine_rules.specs.{Judgement.{numbered}, Rules.{Begins}, Settling.{Writes}}
use Rattle.object_machine.specs.{declared.invoking.Invocation.{Invocation}, declared.invoking.Invocation.TheVariants.{Emit, Call}, Events.{judged, all_living}, code.Judgement.{IsLiving, IsSiteOf}}

-- the event is accepted, and its effect is that the method begins
pub record AsksFor (p : Loaded) (w : World) (o m : ℕ) (values : List Value) (e : Event) : Type 0 where
  pub effect : (t : State) → Begins p (accepted (at w [])) [] o m values t → judged p (at w []) e (Ok t)

-- the event is accepted, and its effect is that the property is written
pub record WritesTo (p : Loaded) (w : World) (place : Place) (value : Value) (e : Event) : Type 0 where
  pub effect : (t : State) → Writes p (accepted (at w [])) [] (Alone place value) t → judged p (at w []) e (Ok t)

-- the event is accepted, and its effect is that the objects and methods of these numbers are connected
abbrev pub ConnectsThese : Loaded → World → Named (List ℕ) → ConnectionType → Endpoints → Type 0
ConnectsThese p w e how ends = judged p (at w []) (event.Connect e how) (Ok (with_connection (accepted (at w [])) ends how))

-- the event is accepted, and its effect is that the objects and methods of these numbers aren't connected any more
abbrev pub DisconnectsThese : Loaded → World → Named (List ℕ) → Endpoints → Type 0
DisconnectsThese p w e ends = judged p (at w []) (event.Disconnect e) (Ok (without_connections (accepted (at w [])) ends))

-- The site is there and has as many formal sources, and the objects live: what is left to be judged is whether the site
-- covers them, and in which event loops they live.
pub record AsksToBind (p : Loaded) (w : World) (name target : List ℕ) (sources : List (List ℕ))
    (number o : ℕ) (objects : List ℕ) : Type 0 where
  pub site : MetaSite
  pub is : IsSiteOf p name (numbered number site)
  pub many : length sources ≡ length site.formals
  pub life : Life
  pub lives : IsLiving w.store.tree target (numbered o life)
  pub live : all_living w.store.tree sources (Ok objects)

-- the event that asks this of a method
abbrev pub invoking : Invocation → List ℕ → List ℕ → List Input → Event
invoking Emit name called inputs = event.Emit name called inputs
invoking Call name called inputs = event.Call name called inputs
