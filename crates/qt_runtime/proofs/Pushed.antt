-- What an event pushes: a method that begins, or what follows a write.
use Rattle.std.{proofs.Common.{◌≡◌, ℕ, ◌-◌, ◌<◌, Result, Ok, MatchResult, inl, inr, subst, arith, List, [], ◌∷◌, ◌++◌, None, refl, sym, ap, ◌∙◌}, specs.Result.{IsErrAnd}}
use Rattle.basic_types.specs.declared.value.Value.{Value}
use Rattle.script_lang.specs.declared.event.Event.{Event}
use Rattle.meta_model.specs.{declared.object.MetaMethod.{MetaMethod}, declared.object.Work.{Work}, declared.object.Work.TheVariants.{Signal, Slot, Native}, Loaded.{Loaded}}
use Rattle.object_tree.specs.declared.object.Object.{Object}
use Rattle.machine_state.specs.{Telling.{Alone}, declared.world.World.{World}, Objects.{all_shown}, State.{Activation, Update}, Accepting.{accepted}, Worlds.{at}, code.Changing.{accepting_entries, accepting_turn, with_bound, HasWritten, HasBound}}
use Rattle.trace_entries.specs.{declared.entry.Entry.{Entry}, declared.fault.Answer.{Answer}, declared.fault.Answer.TheVariants.{Done}, declared.fault.Fault.{Fault}}
use Rattle.object_machine.{specs.Takes.{accepts}, specs.code.Accepted.{AsksFor, WritesTo}, proofs.Judging.Assigning.{field-of}, specs.Causes.{Halts}}
use Rattle.machine_rules.{specs.Natives.{NativeAnswers}, specs.Reaches.{RunsTo}, specs.Good.{ArgumentsFit, TopFits}, specs.Rules.{begun, begin_entry, top_of}, specs.Settling.{Installs, notified}, proofs.Soundness.{sound-settled}, specs.code.Sound.{IsSoundWorld}}
use Rattle.run_context.specs.code.Activating.{IsActivated, IsBarred}
use Rattle.binding_graph.specs.{declared.binding.Binding.{Binding}, declared.place.Place.{Place}}
use Rattle.prop_bindings.specs.{Calls.{new_binding}, Changes.{DifferInValues, IsWritten, IsInstalled, one}, Fits.{Agree, FitsAt}}
use Rattle.rule_interpreter.proofs.Beginning.{top-fits}
use Rattle.qt_runtime.{specs.code.Taking.{Took}, proofs.Taken.{idle, Ready, good-pushed, took-unchanged}, proofs.Stopping.{took-run}}
use Rattle.object_machine.specs.Events.{judged}

begun-here : (w : World) (o : ℕ) (x : Object) (m : ℕ) (method : MetaMethod) (values : List Value) (work : Work) →
    at (accepting_entries w (begin_entry 1 x m method.sig.name (all_shown w.store.tree values) work ∷ [])) (top_of o m values w.store.connections.last work ∷ []) ≡ begun (accepted (at w [])) [] o x m method values work
begun-here w o x m method values Signal = refl
begun-here w o x m method values (Slot statements) = refl
begun-here w o x m method values (Native effects) = refl

-- a method begins
pub judged-begun : {p : Loaded} {d o m : ℕ} {v : World} {values : List Value} {line : Entry} {work : Work} {last : ℕ} (w : World) (e : Event) → AsksFor p w o m values e → IsActivated p d 0 w o m values line work last → v ≡ accepting_entries w (line ∷ []) → judged p (at w []) e (Ok (at v (top_of o m values last work ∷ [])))
judged-begun {p} {d} {o} {m} {v} {values} {line} {work} {last} w e asks is v_is =
    let noted : Entry → World = λ y. accepting_entries w (y ∷ []) in
    let entry : Entry = begin_entry 1 is.object m is.method.sig.name (all_shown w.store.tree values) is.method.work in
    asks.effect (at v (top_of o m values last work ∷ [])) (record {
      object = is.object;
      method = is.method;
      is = is.is;
      gives =
          ap (λ (u : World). at u (top_of o m values last work ∷ [])) (v_is ∙ ap noted is.is_line)
          ∙ ap (λ (k : Work). at (noted entry) (top_of o m values last k ∷ [])) is.is_work
          ∙ ap (λ (l : ℕ). at (noted entry) (top_of o m values l is.method.work ∷ [])) is.is_last
          ∙ begun-here w o is.object m is.method values is.method.work;
    })

-- ---- a property is written, or bound

-- what is notified then
abbrev pub updates : Loaded → World → List Place → List Activation
updates p v changed = Update (notified p v.store.tree changed) ∷ []

-- what is written down leads to this state
told-so : (w v : World) (lines : List Entry) (stack : List Activation) {bindings : List Binding} → v.store.bindings ≡ bindings → v ≡ with_bound (accepting_entries w lines) v.store.tree v.store.bindings →
    at v stack ≡ record (accepted (at w [])) { objects = v.store.tree; bindings = bindings; stack = stack; trace = (accepted (at w [])).trace ++ lines }
told-so w v lines stack same gives =
    ap (λ (z : World). at z stack) gives ∙ ap (λ (bs : List Binding). at (with_bound (accepting_entries w lines) v.store.tree bs) stack) same

pub judged-written : {p : Loaded} {v : World} {value : Value} {place : Place} {changed : List Place} (w : World) (e : Event) → WritesTo p w place value e → FitsAt p w.store.tree place value → HasWritten p 1 (Alone place value) w (accepting_entries w) changed v → judged p (at w []) e (Ok (at v (updates p v changed)))
judged-written {p} {v} {value} {place} {changed} w e writes fits has =
    let Family : List Binding → Type 0 = λ cs. IsWritten w.store.bindings cs w.store.tree v.store.tree (one place value) changed in
    writes.effect (at v (updates p v changed)) (record {
      there = (record { object = fits.object; property = fits.property; is = field-of fits }, tt);
      objects = v.store.tree;
      changed = changed;
      written = subst Family has.writes.bindings has.writes;
      settles = record { lines = has.lines; told = has.are_told; gives = told-so w v has.lines (updates p v changed) has.writes.bindings has.gives };
    })

pub installed : {p : Loaded} {v : World} {number o : ℕ} {sources : List ℕ} {changed : List Place} (w : World) (has : HasBound p number o sources w (accepting_entries w) changed v) → Installs p (accepted (at w [])) [] (new_binding has.binds.may) (at v (updates p v changed))
installed {p} {v} {changed = changed} w has =
    let it = has.binds.installs in
    let Installs_so : List Binding → Type 0 = λ cs. IsInstalled w.store.bindings cs w.store.tree v.store.tree (new_binding has.binds.may) changed in
    record {
      there = record { object = has.binds.fit.typed.object; property = has.binds.fit.typed.property; is = field-of has.binds.fit.typed };
      objects = v.store.tree;
      changed = changed;
      installed = subst Installs_so it.bindings it;
      settles = record { lines = has.lines; told = has.are_told; gives = told-so w v has.lines (updates p v changed) it.bindings has.gives };
    }

-- ---- .. and it runs to its end, or stops on the way

pub began : {p : Loaded} {natives : NativeAnswers} {d o m : ℕ} {w v u : World} {values : List Value} {line : Entry} {work : Work} {last : ℕ} {r : Result (Unit {0}) Fault} (e : Event) → IsSoundWorld p w → ArgumentsFit p w.store.tree o m values → Ready w → AsksFor p w o m values e → IsActivated p d 0 w o m values line work last → v ≡ accepting_entries w (line ∷ []) → RunsTo p natives d [] v (top_of o m values last work ∷ []) u [] r →
    MatchResult r (λ _. Took p natives d w e u (Ok Done)) (λ f. Halts p natives d w (e ∷ []) f u)
began {p} {natives} {d} {o} {m} {w} {v} {u} {values = values} {work = work} {last = last} {r = r} e sound fit some asks is v_is ends =
    let Agrees : World → Type 0 = λ z. Agree p z.store.tree z.store.bindings in
    let Fits : World → Type 0 = λ z. TopFits p z.store.tree (top_of o m values last work ∷ []) in
    let agree_after : Agree p v.store.tree v.store.bindings = subst Agrees (sym v_is) sound.is.agree in
    let fits : TopFits p v.store.tree (top_of o m values last work ∷ []) = subst Fits (sym v_is) (top-fits last work [] fit) in
    let less : v.left ≡ w.left - 1 = ap (λ (z : World). z.left) v_is in
    let none : v.turn ≡ None = ap (λ (z : World). z.turn) v_is ∙ some.no_turn in
    let begun = judged-begun w e asks is v_is in
    let room : 0 < d = is.room in
    took-run e sound (accepts (idle w some.no_turn) begun) (good-pushed w v agree_after fits (omega (arith, room))) some.some less none ends

-- a method that fits begins, unless memory is refused
pub barred-short : {p : Loaded} {natives : NativeAnswers} {d : ℕ} {w : World} {f : Fault} (e : Event) (r : Result Answer Fault) → 0 < d → Ready w → IsBarred d 0 f → IsErrAnd r (λ y. y ≡ f) → Took p natives d w e w r
barred-short e r room some why is = elim why [
  | inl high ↦ absurd (omega (arith, room, high.0))
  | inr memory ↦ took-unchanged e r some (memory, refl) is
]

-- values have changed, and what is notified runs to its end, or stops on the way
pub changed-run : {p : Loaded} {natives : NativeAnswers} {d : ℕ} {w v u : World} {r : Result (Unit {0}) Fault} (lines : List Entry) (changed : List Place) (e : Event) → IsSoundWorld p w → Agree p v.store.tree v.store.bindings → 0 < d → Ready w → judged p (at w []) e (Ok (at v (updates p v changed))) → v ≡ with_bound (accepting_entries w lines) v.store.tree v.store.bindings → RunsTo p natives d [] v (updates p v changed) u [] r →
    MatchResult r (λ _. Took p natives d w e u (Ok Done)) (λ f. Halts p natives d w (e ∷ []) f u)
changed-run {w = w} {v = v} lines changed e sound agree room some judged is ends =
    let less : v.left ≡ w.left - 1 = ap (λ (z : World). z.left) is in
    let none : v.turn ≡ None = ap (λ (z : World). z.turn) is ∙ some.no_turn in
    took-run e sound (accepts (idle w some.no_turn) judged) (good-pushed w v agree tt (omega (arith, room))) some.some less none ends

-- ---- what stays sound meanwhile

pub sound-begun : {p : Loaded} {v : World} (w : World) (entry : Entry) → IsSoundWorld p w → v ≡ accepting_entries w (entry ∷ []) → IsSoundWorld p v
sound-begun {p} w entry sound v_is =
    let Family : World → Type 0 = λ z. IsSoundWorld p z in
    subst Family (sym v_is) (record { program = sound.program; is = record { agree = sound.is.agree; joined = sound.is.joined; housed = sound.is.housed; waiting = sound.is.waiting }; numbers = omega (arith, sound.numbers); room = omega (arith, sound.room) })

-- .. where values have changed, and objects and bindings agree
pub sound-changed : {p : Loaded} {v : World} (w : World) (lines : List Entry) → IsSoundWorld p w → Agree p v.store.tree v.store.bindings → DifferInValues w.store.tree v.store.tree → v ≡ with_bound (accepting_entries w lines) v.store.tree v.store.bindings → IsSoundWorld p v
sound-changed {p} {v} w lines sound agree differ v_is =
    let Family : World → Type 0 = λ z. IsSoundWorld p z in
    subst Family (sym v_is) (record { program = sound.program; is = sound-settled v.store.bindings differ agree sound.is; numbers = omega (arith, sound.numbers); room = omega (arith, sound.room) })

-- .. where a turn begins
pub sound-turn : {p : Loaded} {v : World} (w : World) (home : ℕ) → IsSoundWorld p w → v ≡ accepting_turn w home → IsSoundWorld p v
sound-turn {p} w home sound v_is =
    let Family : World → Type 0 = λ z. IsSoundWorld p z in
    subst Family (sym v_is) (record { program = sound.program; is = record { agree = sound.is.agree; joined = sound.is.joined; housed = sound.is.housed; waiting = sound.is.waiting }; numbers = omega (arith, sound.numbers); room = omega (arith, sound.room) })
