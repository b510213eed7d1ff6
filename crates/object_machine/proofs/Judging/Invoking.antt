-- `emit` and `call`.
use Rattle.std.proofs.Common.{◌≡◌, ℕ, List, [], length, Result, Ok, Err, subst}
use Rattle.basic_types.specs.declared.value.Value.{Value}
use Rattle.meta_model.specs.{declared.object.MetaMethod.{MetaMethod}, Loaded.{Loaded}, Members.{IsMethod, IsMethodNamed}}
use Rattle.object_tree.specs.{declared.life.Life.{Life}, Typed.{ReadAs}}
use Rattle.script_lang.specs.declared.event.Input.{Input}
use Rattle.trace_entries.specs.{declared.refusal.Refusal.{Refusal}, declared.refusal.Refusal.TheVariants.{NoMember, BadArgs}}
use Rattle.machine_state.specs.{declared.world.World.{World}, State.{State}, Worlds.{at}}
use Rattle.machine_rules.{proofs.Fields.{method-unique}, specs.Judgement.{Numbered, found, missing, holds, fails, becomes, goes_on, ends}}
use Rattle.object_machine.{specs.declared.invoking.Invocation.{Invocation}, specs.declared.invoking.Invocation.TheVariants.{Emit, Call}, specs.declared.not_accepted.NotAccepted.{NotAccepted}, specs.code.Judgement.{IsNotAccepted, refused, short, IsLiving}, specs.code.Accepted.{AsksFor, invoking}, specs.Events.{judged, invoke, May, IsAskedOf, values}, proofs.Judged.{then-ends, then-on}, proofs.Judging.Naming.{living-ok}}

-- an event that asks something is judged as what it asks
pub judged-invoking : (p : Loaded) (s : State) {r : Result State Refusal} (a : Invocation) (name called : List ℕ) (inputs : List Input) → invoke p s a name called inputs r → judged p s (invoking a name called inputs) r
judged-invoking p s Emit name called inputs x = x
judged-invoking p s Call name called inputs x = x

pub not-invoking : (p : Loaded) (s : State) {n : NotAccepted} (a : Invocation) (name called : List ℕ) (inputs : List Input) → IsNotAccepted (invoke p s a name called inputs) n → IsNotAccepted (judged p s (invoking a name called inputs)) n
not-invoking p s a name called inputs (refused x) = refused (judged-invoking p s a name called inputs x)
not-invoking p s a name called inputs short = short

-- a look-up's only answer of a name and number of parameters may not be asked this, so none may
pub none-asked : {p : Loaded} {class number count : ℕ} {name : List ℕ} {it : MetaMethod} (a : Invocation) → ((j : ℕ) → IsMethodNamed p class name count j → j ≡ number) → IsMethod p class number it → (¬ May a number it) → (m : Numbered MetaMethod) → IsAskedOf p class a name count m → ⊥
none-asked {p} {class} {number} {count} {name} {it} a only at unlike m is =
    let number_is : m.number ≡ number = only m.number (record { method = m.it; is = is.is; named = is.named; counted = is.counted }) in
    let there_too : IsMethod p class number m.it = subst (λ (k : ℕ). IsMethod p class k m.it) number_is is.is in
    unlike (subst (λ (k : MetaMethod). May a number k) (method-unique there_too at) (subst (λ (k : ℕ). May a k m.it) number_is is.may))

module _ (p : Loaded) (w : World) (a : Invocation) (name called : List ℕ) (inputs : List Input) (o : Numbered Life) (lives : IsLiving w.store.tree name o) where
  pub no-method : ((m : Numbered MetaMethod) → ¬ IsAskedOf p o.it.class a called (length inputs) m) → invoke p (at w []) a name called inputs (Err NoMember)
  no-method none = goes_on o (living-ok o lives) (ends (missing none))

  module _ (m : Numbered MetaMethod) (has : IsAskedOf p o.it.class a called (length inputs) m) where
    pub no-values : {n : NotAccepted} → IsNotAccepted (values w.store.tree inputs) n → IsNotAccepted (invoke p (at w []) a name called inputs) n
    no-values x = then-on o (living-ok o lives) (then-on m (found has) (then-ends x))

    module _ (vs : List Value) (are : values w.store.tree inputs (Ok vs)) where
      pub bad-values : (¬ ReadAs p w.store.tree vs m.it.types) → invoke p (at w []) a name called inputs (Err BadArgs)
      bad-values ill = goes_on o (living-ok o lives) (goes_on m (found has) (goes_on vs are (ends (fails ill))))

      pub asks-for : ReadAs p w.store.tree vs m.it.types → AsksFor p w o.number m.number vs (invoking a name called inputs)
      asks-for fit = record { effect = λ t begins. judged-invoking p (at w []) a name called inputs (goes_on o (living-ok o lives) (goes_on m (found has) (goes_on vs are (goes_on tt (holds fit) (becomes begins))))) }
