-- After an event that is well and closes no chain of bindings properties and bindings agree, if they did before it.
use Rattle.std.proofs.Common.{◌≡◌, ℕ, Bool, true, false, List, [], ◌∷◌, ◌++◌, Ok, Some, sym, subst}
use Rattle.meta_model.specs.{declared.object.MetaProperty.{MetaProperty}, Loaded.{Loaded}, Members.{IsProperty}, Sound.{IsSound, IsPlain}}
use Rattle.object_tree.specs.{declared.object.Object.{Object}, Creating.{fresh, initial_values}, Typed.{AreTyped}}
use Rattle.binding_graph.specs.declared.binding.Binding.{Binding}
use Rattle.prop_bindings.specs.{Calls.{binding_of}, Fits.{Agree, IsInOneLoop}}
use Rattle.delete_later.proofs.Agreeing.{agree-on, live-created}
use Rattle.script_lang.specs.{declared.event.Event.{Event}, declared.event.Event.TheVariants.{Loop, Turn, New, Adopt, Move, Connect, Disconnect, Set, Bind, Emit, Call, Block, Unblock, Delete, Later}, declared.event.Input.{Input}}
use Rattle.trace_entries.specs.declared.fault.Answer.{Answer}
use Rattle.machine_state.specs.{Accepting.{accepted}, State.{State, Activation}}
use Rattle.machine_rules.{specs.Good.{IsWell, IsAcyclic}, specs.Judgement.{found as finds, holds as so, becomes, goes_on}, specs.Settling.{Installs}, specs.There.{IsField}, proofs.Agreeing.{begun-agrees, writes-agrees, installs-agrees, schedules-agrees}, proofs.Fields.{field-property}, proofs.Keeps.{lives-of-class}, proofs.Inherited.{property-below}}
use Rattle.object_machine.{specs.declared.invoking.Invocation.{Invocation}, specs.declared.invoking.Invocation.TheVariants.{Emit as EmitIt, Call as CallIt}, specs.Laws.{TakingSettles}, specs.Takes.{Takes, accepts, refuses}, specs.Events.{judged, may_bind, block, invoke}, proofs.Judged.{given-is}, proofs.Changes.{agree-adopted, agree-blocked}, proofs.Moving.{stores-agree}}

-- a binding that may be installed binds a property of a value type
pub bound-plain : {p : Loaded} {t : State} {b : Binding} {below : List Activation} (s : State) (site target : List ℕ) (sources : List (List ℕ)) → IsSound p → may_bind p s site target sources (Ok b) → (x : Installs p (accepted s) below b t) → IsPlain x.there.property.kind
bound-plain {p} {b = b} s site target sources sound (goes_on n (finds is) (goes_on _ many (goes_on o lives (goes_on xs all (goes_on _ (so covers) (goes_on _ one given)))))) x =
    let plain = (sound.sites n.number n.it is.0).target in
    let own = lives-of-class s.objects o.number covers.of_target.class covers.of_target.is in
    let At : ℕ → Type 0 = λ k. IsProperty p k n.it.property plain.property in
    let its : IsProperty p own.1.class n.it.property plain.property = subst At (sym own.3) (property-below sound covers.of_target.below plain.is) in
    let field : IsField p s.objects o.number n.it.property own.0 plain.property = record { life = own.1; lives = own.2; class = its.class; is_class = its.is_class; is_property = its.is } in
    let same : b ≡ binding_of n.it n.number o.number xs = given-is given in
    let There : Binding → Type 0 = λ z. IsField p s.objects z.target.object z.target.property own.0 plain.property in
    let one_is : plain.property ≡ x.there.property = field-property (subst There (sym same) field) x.there.is in
    subst (λ (k : MetaProperty). IsPlain k.kind) one_is plain.plain

-- .. and its objects live in one event loop
pub bound-within : {p : Loaded} {b : Binding} (s : State) (site target : List ℕ) (sources : List (List ℕ)) → may_bind p s site target sources (Ok b) → IsInOneLoop s.objects b
bound-within s site target sources (goes_on n is (goes_on _ many (goes_on o lives (goes_on xs all (goes_on _ covers (goes_on _ (so within) given)))))) =
    subst (IsInOneLoop s.objects) (sym (given-is given)) within

module _ {p : Loaded} {s t : State} (sound : IsSound p) (agree : Agree p s.objects s.bindings) (well : IsWell p s t) where
  -- it is a state in which they do
  settled-at : (u : State) → t ≡ u → Agree p u.objects u.bindings → Agree p t.objects t.bindings
  settled-at u e before = let In : State → Type 0 = λ v. Agree p v.objects v.bindings in subst In (sym e) before

  accepted-well : IsWell p (accepted s) t
  accepted-well = record { arguments = well.arguments; values = well.values }

  invoked-agrees : (a : Invocation) (name called : List ℕ) (inputs : List Input) → invoke p s a name called inputs (Ok t) → Agree p t.objects t.bindings
  invoked-agrees a name called inputs (goes_on o lives (goes_on m asked (goes_on vs given (goes_on _ fit (becomes b))))) =
      begun-agrees {s = accepted s} agree accepted-well (accepted s) s.stack o.number b.object m.number b.method vs b.method.work agree b.gives

  blocked-agrees : (name : List ℕ) (on : Bool) → block s name on (Ok t) → Agree p t.objects t.bindings
  blocked-agrees name on (goes_on o lives given) = settled-at _ (given-is given) (agree-blocked o.number on agree)

  judged-agrees : (e : Event) → IsAcyclic t → judged p s e (Ok t) → Agree p t.objects t.bindings
  judged-agrees (Loop name) acyclic (goes_on _ free given) = settled-at _ (given-is given) agree
  judged-agrees (Turn name) acyclic (goes_on home is given) = settled-at _ (given-is given) agree
  judged-agrees (New name class loop) acyclic (goes_on _ free (goes_on c is (goes_on home lives (goes_on _ room given)))) =
      let z : Object = fresh name c.number home (initial_values c.it) in
      let typed : AreTyped p (s.objects ++ z ∷ []) = subst (λ (v : State). AreTyped p v.objects) (given-is given) well.values in
      settled-at _ (given-is given) (agree-on p s.objects (s.objects ++ z ∷ []) (live-created s.objects z) s.bindings typed agree)
  judged-agrees (Adopt parent child) acyclic (goes_on a above (goes_on c below (goes_on _ owns (goes_on _ over (goes_on _ home (goes_on objects (becomes x) given)))))) =
      settled-at _ (given-is given) (agree-adopted agree x)
  judged-agrees (Move name loop) acyclic (goes_on o lives (goes_on home is (goes_on _ root (goes_on _ alone (goes_on store (becomes x) given))))) =
      settled-at _ (given-is given) (stores-agree x agree)
  judged-agrees (Connect e how) acyclic (goes_on f both (goes_on _ may given)) = settled-at _ (given-is given) agree
  judged-agrees (Disconnect e) acyclic (goes_on f both (goes_on _ may given)) = settled-at _ (given-is given) agree
  judged-agrees (Set name property i) acyclic (goes_on o lives (goes_on q asked (goes_on v given (goes_on _ fits (becomes x))))) =
      writes-agrees {s = accepted s} agree accepted-well x
  judged-agrees (Bind site target sources) acyclic (goes_on b may (becomes x)) =
      installs-agrees {s = accepted s} agree accepted-well acyclic x (bound-plain s site target sources sound may x) (bound-within s site target sources may)
  judged-agrees (Emit name signal inputs) acyclic x = invoked-agrees EmitIt name signal inputs x
  judged-agrees (Call name slot inputs) acyclic x = invoked-agrees CallIt name slot inputs x
  judged-agrees (Block name) acyclic x = blocked-agrees name true x
  judged-agrees (Unblock name) acyclic x = blocked-agrees name false x
  judged-agrees (Delete name) acyclic (goes_on o lives given) = settled-at _ (given-is given) agree
  judged-agrees (Later name) acyclic (goes_on o lives (becomes x)) =
      schedules-agrees {s = accepted s} agree accepted-well s.stack o.number (Some o.it) x

pub takes-agree : {p : Loaded} {s t : State} {e : Event} {a : Answer} → IsSound p → Agree p s.objects s.bindings → Takes p e a s t → IsWell p s t → IsAcyclic t → Agree p t.objects t.bindings
takes-agree {e = e} sound agree (accepts idle x) well acyclic = judged-agrees sound agree well e acyclic x
takes-agree sound agree (refuses k idle x) well acyclic = agree

pub taking_settles : TakingSettles
taking_settles p e a s t sound agree x well acyclic = takes-agree sound agree x well acyclic
