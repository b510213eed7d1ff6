-- `set`.
use Rattle.std.proofs.Common.{ℕ, List, [], Ok, Err}
use Rattle.basic_types.specs.declared.value.Value.{Value}
use Rattle.meta_model.specs.{declared.object.MetaProperty.{MetaProperty}, Loaded.{Loaded}}
use Rattle.object_tree.specs.{declared.life.Life.{Life}, declared.object.Object.{Object}, Typed.{ReadsAs}}
use Rattle.binding_graph.specs.{declared.place.Place.{Place}, Places.{property_of}}
use Rattle.prop_bindings.specs.Fits.{FitsAt}
use Rattle.script_lang.specs.{declared.event.Event.TheVariants.{Set}, declared.event.Input.{Input}}
use Rattle.trace_entries.specs.declared.refusal.Refusal.TheVariants.{NoMember, BadArgs}
use Rattle.machine_state.specs.{declared.world.World.{World}, Worlds.{at}}
use Rattle.machine_rules.specs.{There.{IsField}, Judgement.{Numbered, found, missing, holds, fails, becomes, goes_on, ends}}
use Rattle.object_machine.{specs.declared.not_accepted.NotAccepted.{NotAccepted}, specs.code.Judgement.{IsNotAccepted, IsLiving, IsPropertyOf}, specs.code.Accepted.{WritesTo}, specs.Events.{judged, value}, proofs.Judged.{then-ends, then-on}, proofs.Judging.Naming.{living-ok}}

-- a property that a value fits is there
pub field-of : {p : Loaded} {objects : List Object} {at : Place} {v : Value} (fits : FitsAt p objects at v) → IsField p objects at.object at.property fits.object fits.property
field-of fits = record { life = fits.life; lives = fits.lives; class = fits.is_property.class; is_class = fits.is_property.is_class; is_property = fits.is_property.is }

-- .. and a value fits one that is there, if it is of its type
pub fits-at : {p : Loaded} {objects : List Object} {at : Place} {v : Value} {x : Object} {property : MetaProperty} → IsField p objects at.object at.property x property → ReadsAs p objects v property.kind → FitsAt p objects at v
fits-at {x = x} {property = property} f reads = record { object = x; life = f.life; lives = f.lives; property = property; is_property = record { class = f.class; is_class = f.is_class; is = f.is_property }; reads = reads }

module _ (p : Loaded) (w : World) (name property : List ℕ) (i : Input) (o : Numbered Life) (lives : IsLiving w.store.tree name o) where
  pub no-property : ((q : Numbered MetaProperty) → ¬ IsPropertyOf p o.it.class property q) → judged p (at w []) (Set name property i) (Err NoMember)
  no-property none = goes_on o (living-ok o lives) (ends (missing none))

  module _ (q : Numbered MetaProperty) (has : IsPropertyOf p o.it.class property q) where
    pub no-value : {n : NotAccepted} → IsNotAccepted (value w.store.tree i) n → IsNotAccepted (judged p (at w []) (Set name property i)) n
    no-value x = then-on o (living-ok o lives) (then-on q (found has) (then-ends x))

    module _ (v : Value) (is : value w.store.tree i (Ok v)) where
      pub bad-value : (¬ ReadsAs p w.store.tree v q.it.kind) → judged p (at w []) (Set name property i) (Err BadArgs)
      bad-value ill = goes_on o (living-ok o lives) (goes_on q (found has) (goes_on v is (ends (fails ill))))

      pub writes-to : ReadsAs p w.store.tree v q.it.kind → WritesTo p w (property_of o.number q.number) v (Set name property i)
      writes-to fits = record { effect = λ t writes. goes_on o (living-ok o lives) (goes_on q (found has) (goes_on v is (goes_on tt (holds fits) (becomes writes)))) }
