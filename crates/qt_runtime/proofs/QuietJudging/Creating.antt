-- `new`.
use Rattle.std.proofs.Common.{◌≡◌, ℕ, ◌<◌, List, [], ◌∷◌, ◌++◌, length, Option, Result, Ok, Err, MatchResult, refl, sym, ap, ◌∙◌, subst, arith}
use Rattle.meta_model.specs.{declared.object.MetaObject.{MetaObject}, Loaded.{Loaded}, Members.{IsClass, IsClassNamed}}
use Rattle.object_tree.{specs.declared.fault.CreateFault.{CreateFault}, specs.declared.object.Object.{Object}, specs.Creating.{IsCreated, IsNotCreated, BeginsWell, name_used, no_class, too_many, bad_type, no_memory, begun, fresh, initial_values, most_objects}, specs.Objects.{IsFree, IsNamed}, proofs.TypedObjects.{typed-fresh, get-last}}
use Rattle.script_lang.specs.declared.event.Event.TheVariants.{New}
use Rattle.trace_entries.specs.{declared.fault.Fault.{Fault}, declared.fault.Fault.TheVariants.{BadType}, declared.refusal.Refusal.{Refusal}, declared.refusal.Refusal.TheVariants.{NameUsed, NoClass, NoLoop}}
use Rattle.machine_state.specs.{declared.world.World.{World}, Accepting.{accepted}, State.{State}, Worlds.{at}}
use Rattle.machine_rules.{specs.Good.{IsWell}, proofs.Fields.{class-unique}, specs.Judgement.{NothingIs, found, missing, holds, fails, gives, goes_on, ends}}
use Rattle.qt_runtime.specs.code.Quiet.{creation_reason, Stops, ill as ill_typed, short}
use Rattle.object_machine.specs.Events.{judged, IsHome}
use Rattle.object_machine.specs.code.Judgement.{IsClassOf}

-- the class of a name
class-of : {p : Loaded} {name : List ℕ} {number : ℕ} {kind : MetaObject} → IsClassNamed p name number → IsClass p number kind → IsClassOf p name (record { number = number; it = kind })
class-of named is = (is, ap (λ (k : MetaObject). k.name) (class-unique is named.is) ∙ named.named)

-- the object that an event creates
abbrev pub made : List ℕ → ℕ → ℕ → MetaObject → Object
made name home number kind = fresh name number home (initial_values kind)

module _ (p : Loaded) (w : World) (name class : List ℕ) (loop : Option (List ℕ)) (home : ℕ) (lives : IsHome w.store.loops.loops loop home) where
  creates : {number : ℕ} {kind : MetaObject} → IsFree w.store.tree name → IsClassNamed p class number → IsClass p number kind → length w.store.tree < most_objects → judged p (at w []) (New name class loop) (Ok (record (accepted (at w [])) { objects = w.store.tree ++ made name home number kind ∷ [] }))
  creates {number} {kind} free named is room =
      goes_on tt (holds free) (goes_on (record { number = number; it = kind }) (found (class-of named is)) (goes_on home (found lives) (goes_on tt (holds room) gives)))

  pub created : {o : ℕ} {new : List Object} → IsCreated p w.store.tree name class home o new → judged p (at w []) (New name class loop) (Ok (record (accepted (at w [])) { objects = new }))
  created is =
      let Family : List Object → Type 0 = λ l. judged p (at w []) (New name class loop) (Ok (record (accepted (at w [])) { objects = l })) in
      subst Family (sym is.appended) (creates is.may.free is.may.named is.may.is is.may.room)

  -- an initial value isn't of its property's type
  stops-ill : {number : ℕ} {kind : MetaObject} → IsFree w.store.tree name → IsClassNamed p class number → IsClass p number kind → length w.store.tree < most_objects → (¬ BeginsWell p w.store.tree number kind) → Stops p w (New name class loop) BadType
  stops-ill {number} {kind} free named is room ill =
      let after : State = record (accepted (at w [])) { objects = w.store.tree ++ made name home number kind ∷ [] } in
      let not_well : IsWell p (at w []) after → ⊥ = λ well.
      ill (typed-fresh p w.store.tree name number home kind is (well.values (length w.store.tree) (made name home number kind) (begun number home (initial_values kind)) (record { is = get-last w.store.tree (made name home number kind); lives = refl }))) in
      ill_typed (creates free named is room) refl not_well

  -- no object is created
  pub not-created : {f : CreateFault} → IsNotCreated p w.store.tree name class f → MatchResult (creation_reason f) (λ k. judged p (at w []) (New name class loop) (Err k)) (λ g. Stops p w (New name class loop) g)
  not-created (name_used is) = ends (fails (λ free. free _ is.named))
  not-created (no_class free none) = goes_on tt (holds free) (ends (missing (λ c is. none c.number (record { class = c.it; is = is.0; named = is.1 }))))
  not-created (too_many {c = c} free named many) =
      goes_on tt (holds free) (goes_on (record { number = c; it = named.class }) (found (named.is, named.named)) (goes_on home (found lives) (ends (fails (λ few. absurd (omega (arith, few, many)))))))
  not-created (bad_type free named is room ill) = stops-ill free named is room ill
  not-created no_memory = short

  pub creation-stops : {f : CreateFault} {g : Fault} → IsNotCreated p w.store.tree name class f → Err g ≡ creation_reason f → Stops p w (New name class loop) g
  creation-stops is e =
      let Decides : Result Refusal Fault → Type 0 = λ r. MatchResult r (λ k. judged p (at w []) (New name class loop) (Err k)) (λ h. Stops p w (New name class loop) h) in
      subst Decides (sym e) (not-created is)

  pub creation-refuses : {f : CreateFault} {k : Refusal} → IsNotCreated p w.store.tree name class f → Ok k ≡ creation_reason f → judged p (at w []) (New name class loop) (Err k)
  creation-refuses is e =
      let Decides : Result Refusal Fault → Type 0 = λ r. MatchResult r (λ k. judged p (at w []) (New name class loop) (Err k)) (λ h. Stops p w (New name class loop) h) in
      subst Decides (sym e) (not-created is)

-- there is no such loop
pub no-home : (p : Loaded) (w : World) (name class : List ℕ) (loop : Option (List ℕ)) {number : ℕ} → IsFree w.store.tree name → IsClassNamed p class number → NothingIs (IsHome w.store.loops.loops loop) → judged p (at w []) (New name class loop) (Err NoLoop)
no-home p w name class loop free named none = goes_on tt (holds free) (goes_on (record { number = _; it = named.class }) (found (named.is, named.named)) (ends (missing none)))

pub name-taken : (p : Loaded) (w : World) (name class : List ℕ) (loop : Option (List ℕ)) {o : ℕ} → IsNamed w.store.tree name o → judged p (at w []) (New name class loop) (Err NameUsed)
name-taken p w name class loop is = ends (fails (λ free. free _ is.named))

pub no-such-class : (p : Loaded) (w : World) (name class : List ℕ) (loop : Option (List ℕ)) → IsFree w.store.tree name → ((number : ℕ) → ¬ IsClassNamed p class number) → judged p (at w []) (New name class loop) (Err NoClass)
no-such-class p w name class loop free none = goes_on tt (holds free) (ends (missing (λ c is. none c.number (record { class = c.it; is = is.0; named = is.1 }))))
