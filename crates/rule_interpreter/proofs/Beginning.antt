-- How methods begin.
use Rattle.std.proofs.Common.{◌≡◌, ℕ, suc, ◌+◌, ◌-◌, ◌<◌, ◌≤◌, inl, inr, Bool, true, false, List, [], ◌∷◌, ◌++◌, length, take, Result, Option, Some, refl, sym, ap, ◌∙◌, subst, arith, length-append, ◌≢◌}
use Rattle.basic_types.specs.declared.value.Value.{Value}
use Rattle.meta_model.specs.{declared.object.MetaMethod.{MetaMethod}, declared.object.Work.{Work}, declared.object.Work.TheVariants.{Signal, Slot, Native}, Loaded.{Loaded}}
use Rattle.connections.specs.declared.connection.Connection.{Connection}
use Rattle.binding_graph.specs.declared.place.Place.{Place}
use Rattle.trace_entries.specs.{declared.entry.Entry.{Entry}, declared.fault.Fault.{Fault}, declared.fault.Fault.TheVariants.{BadType, TooDeep}}
use Rattle.event_loops.specs.declared.item.Item.TheVariants.{Call}
use Rattle.object_tree.specs.{Objects.{home_of}, declared.object.Object.{Object}, Typed.{ReadAs}}
use Rattle.machine_state.{specs.declared.world.World.{World}, specs.Objects.{all_shown}, specs.State.{State, Activation, Emit, Update}, specs.Turns.{running, reaches_at_once}, specs.Connections.{next_used}, proofs.Due.{last-used}, specs.Worlds.{at}, specs.code.Changing.{noted, having_used, posting}}
use Rattle.machine_rules.{specs.Rules.{Begins, begun, with_used, posted, EmitRule, Uses, Arrives, begin_entry, top_of}, specs.Good.{ArgumentsFit, EmissionFits, of_living, of_dead, TopFits, IsWell, shows}, specs.code.Sound.{AgreeIn}, specs.Reaches.{Reaches, StopsIn, RunsTo, CallsIn, Calls, OnlyCalls, DoesWork}, proofs.Stacks.{high, shows-over}, specs.There.{IsMember}, proofs.Dying.{lives-not-dead}, proofs.ReachedStates.{none-spared, same-spared, reaches-pushed, ends-after, ends-lifted, not-idle, ends-noted, stops-as, stops-memory, stops-deep, stops-ill, stops-stuck, no-update-fits}, proofs.Fields.{member-method}, specs.Operations.{Write, Begin, TakeAnswer}, specs.Natives.{NativeAnswers}}
use Rattle.run_context.specs.{code.Activating.{IsActivated, IsBarred}, code.Posting.{entry_of_post, PostsCall}}

-- the world after a method began
abbrev pub begun_world : World → ℕ → Object → ℕ → MetaMethod → List Value → World
begun_world w depth x m method arguments = noted w (begin_entry depth x m method.sig.name (all_shown w.store.tree arguments) method.work ∷ [])

begun-is : (w : World) (stack over : List Activation) (o : ℕ) (x : Object) (m : ℕ) (method : MetaMethod) (arguments : List Value) (work : Work) →
    at (noted w (begin_entry (suc (length over)) x m method.sig.name (all_shown w.store.tree arguments) work ∷ [])) (top_of o m arguments w.store.connections.last work ∷ over) ≡ begun (at w stack) over o x m method arguments work
begun-is w stack over o x m method arguments Signal = refl
begun-is w stack over o x m method arguments (Slot statements) = refl
begun-is w stack over o x m method arguments (Native effects) = refl

-- a method that is there begins
pub begins-there : {p : Loaded} {n o m : ℕ} {x : Object} {method : MetaMethod} (w : World) (arguments : List Value) (stack over : List Activation) → IsMember p w.store.tree o m x method → n ≡ suc (length over) →
    Begins p (at w stack) over o m arguments (at (begun_world w n x m method arguments) (top_of o m arguments w.store.connections.last method.work ∷ over))
begins-there {o = o} {m = m} {x = x} {method = method} w arguments stack over is depth_is =
    let with_depth : ℕ → State = λ n. at (begun_world w n x m method arguments) (top_of o m arguments w.store.connections.last method.work ∷ over) in
    record {
      object = x;
      method = method;
      is = is;
      gives = ap with_depth depth_is ∙ begun-is w stack over o x m method arguments method.work;
    }

-- .. and its activation is the last of so many
pub one-more : {h active : List (Option ℕ)} (to below : List Activation) → active ≡ shows to ++ h → shows below ≡ h → length active + 1 ≡ suc (length (to ++ below))
one-more to below over e = omega (arith, high (to ++ below) (shows-over to below over e))

pub top-fits : {p : Loaded} {objects : List Object} {o m : ℕ} {arguments : List Value} (last : ℕ) (work : Work) (below : List Activation) → ArgumentsFit p objects o m arguments → TopFits p objects (top_of o m arguments last work ∷ below)
top-fits last Signal below fit = of_living fit
top-fits last (Slot statements) below fit = fit
top-fits last (Native effects) below fit = fit

-- .. and it is no update
pub top-other : (o m last : ℕ) (arguments : List Value) (places : List Place) (work : Work) → top_of o m arguments last work ≢ Update places
top-other o m last arguments places Signal is = cc is
top-other o m last arguments places (Slot statements) is = cc is
top-other o m last arguments places (Native effects) is = cc is

emission-fits : {p : Loaded} {objects : List Object} {o m : ℕ} {x : Object} {method : MetaMethod} {arguments : List Value} → IsMember p objects o m x method → EmissionFits p objects o m arguments → ArgumentsFit p objects o m arguments
emission-fits is (of_living fit) = fit
emission-fits is (of_dead gone g_is typed) = absurd (lives-not-dead is.lives gone)

fits-top : {p : Loaded} {objects : List Object} {o m : ℕ} {x : Object} {method : MetaMethod} {arguments : List Value} (last : ℕ) (work : Work) (below : List Activation) → IsMember p objects o m x method → TopFits p objects (top_of o m arguments last work ∷ below) → ArgumentsFit p objects o m arguments
fits-top last Signal below is fit = emission-fits is fit
fits-top last (Slot statements) below is fit = fit
fits-top last (Native effects) below is fit = fit

reaches-begun : {p : Loaded} {natives : NativeAnswers} {d o m : ℕ} {h active : List (Option ℕ)} {w u v : World} {from to : List Activation} {arguments : List Value} {line : Entry} {work : Work} {last : ℕ} →
    active ≡ shows to ++ h → CallsIn p natives w u from to o m arguments → IsActivated p d (length active) u o m arguments line work last → ArgumentsFit p u.store.tree o m arguments → AgreeIn p u → 0 < w.left → u.left ≡ w.left → v ≡ noted u (line ∷ []) →
    Reaches p natives d h w from v (top_of o m arguments last work ∷ to)
reaches-begun {p} {natives} {d} {o} {m} {h} {active} {w} {u} {v} {from} {to} {arguments} {line} {work} {last} over calls is fit agree some same v_is =
    let Pushed : World → Work → ℕ → Type 0 = λ z k l. Reaches p natives d h w from z (top_of o m arguments l k ∷ to) in
    let target : World = begun_world u (length active + 1) is.object m is.method arguments in
    let target_is : v ≡ target = v_is ∙ ap (λ (y : Entry). noted u (y ∷ [])) is.is_line in
    let went : Pushed target is.method.work u.store.connections.last =
    reaches-pushed over (λ places. top-other o m u.store.connections.last arguments places is.method.work) (λ below e. calls.gives below _ (begins-there u arguments (from ++ below) (to ++ below) is.is (one-more to below over e))) (λ below e. none-spared w.store.tree u.store.tree (from ++ below) (same-spared calls.objects)) (λ below. top-fits u.store.connections.last is.method.work (to ++ below) fit) is.room agree (ap (λ (n : ℕ). n - 1) same) some in
    subst (λ (z : World). Pushed z work last) (sym target_is) (subst (λ (k : Work). Pushed target k last) (sym is.is_work) (subst (λ (l : ℕ). Pushed target is.method.work l) (sym is.is_last) went))

-- a method begins, and what it pushed runs
pub ends-begun : {p : Loaded} {natives : NativeAnswers} {d o m : ℕ} {h active : List (Option ℕ)} {w u v z : World} {from to : List Activation} {arguments : List Value} {line : Entry} {work : Work} {last : ℕ} {r : Result (Unit {0}) Fault} →
    active ≡ shows to ++ h → CallsIn p natives w u from to o m arguments → IsActivated p d (length active) u o m arguments line work last → ArgumentsFit p u.store.tree o m arguments → AgreeIn p u → 0 < w.left → u.left ≡ w.left → v ≡ noted u (line ∷ []) →
    RunsTo p natives d active v (top_of o m arguments last work ∷ []) z [] r → RunsTo p natives d h w from z to r
ends-begun over calls is fit agree some same v_is x = ends-after (reaches-begun over calls is fit agree some same v_is) (ends-lifted over x)

-- activations would nest too deep
stops-begin : {p : Loaded} {natives : NativeAnswers} {d o m : ℕ} {h active : List (Option ℕ)} {w u : World} {from to : List Activation} {arguments : List Value} →
    active ≡ shows to ++ h → CallsIn p natives w u from to o m arguments → ArgumentsFit p u.store.tree o m arguments → AgreeIn p u → 0 < w.left → d ≤ length active → StopsIn p natives d h w from w TooDeep
stops-begin {p} {natives} {o = o} {m = m} {active = active} {w = w} {u = u} {from = from} {to = to} {arguments = arguments} over calls fit agree some deep =
    let target : World = begun_world u (length active + 1) fit.object m fit.method arguments in
    stops-deep some (λ below e. (
      at target (top_of o m arguments u.store.connections.last fit.method.work ∷ to ++ below),
      calls.gives below _ (begins-there u arguments (from ++ below) (to ++ below) fit.is (one-more to below over e)),
      record { arguments = λ higher. top-fits u.store.connections.last fit.method.work (to ++ below) fit; values = agree.typed },
      none-spared w.store.tree u.store.tree (from ++ below) (same-spared calls.objects),
      agree,
      no-update-fits p natives (at w (from ++ below)) _ (top_of o m arguments u.store.connections.last fit.method.work) (to ++ below) (calls.gives below _ (begins-there u arguments (from ++ below) (to ++ below) fit.is (one-more to below over e))) refl (λ places. top-other o m u.store.connections.last arguments places fit.method.work),
      omega (arith, one-more to below over e, deep),
    ))

-- a method that fits doesn't begin
pub stops-barred : {p : Loaded} {natives : NativeAnswers} {d o m : ℕ} {h active : List (Option ℕ)} {w u : World} {from to : List Activation} {arguments : List Value} {f : Fault} →
    active ≡ shows to ++ h → CallsIn p natives w u from to o m arguments → ArgumentsFit p u.store.tree o m arguments → AgreeIn p u → 0 < w.left → IsBarred d (length active) f → StopsIn p natives d h w from w f
stops-barred over calls fit agree some why = elim why [
  | inl deep ↦ stops-as deep.1 (stops-begin over calls fit agree some deep.0)
  | inr short ↦ stops-as short (stops-memory calls.goes_on some)
]

-- there is no such method
pub stops-no-member : {p : Loaded} {natives : NativeAnswers} {d o m : ℕ} {h : List (Option ℕ)} {w : World} {from to : List Activation} {arguments : List Value} →
    Calls p natives w from to o m arguments → OnlyCalls p natives w from to o m arguments → ((x : Object) (method : MetaMethod) → ¬ IsMember p w.store.tree o m x method) → 0 < w.left → StopsIn p natives d h w from w BadType
stops-no-member {o = o} {m = m} {arguments = arguments} calls only none some =
    stops-stuck calls.goes_on some (λ below t r. let b = only.begins below t r in none b.object b.method b.is) (λ below what next. let same : Write what ≡ Begin o m arguments = only.next below (Write what) next in absurd (cc same))
    (λ below effects next. let same : TakeAnswer effects ≡ Begin o m arguments = only.next below (TakeAnswer effects) next in absurd (cc same))

-- the arguments that fit are of the method's types
fit-typed : {p : Loaded} {objects : List Object} {o m : ℕ} {x : Object} {method : MetaMethod} {arguments : List Value} → IsMember p objects o m x method → ArgumentsFit p objects o m arguments → ReadAs p objects arguments method.types
fit-typed {p} {objects} {o} {m} {x} {method} {arguments} is fit =
    let Kinds : MetaMethod → Type 0 = λ k. ReadAs p objects arguments k.types in
    subst Kinds (member-method fit.is is) fit.typed

-- the arguments aren't of the method's types
pub stops-ill-typed : {p : Loaded} {natives : NativeAnswers} {d o m : ℕ} {h : List (Option ℕ)} {w : World} {from to : List Activation} {x : Object} {method : MetaMethod} {arguments : List Value} →
    Calls p natives w from to o m arguments → IsMember p w.store.tree o m x method → (¬ ReadAs p w.store.tree arguments method.types) → AgreeIn p w → 0 < w.left → StopsIn p natives d h w from w BadType
stops-ill-typed {p} {natives} {o = o} {m = m} {w = w} {from = from} {to = to} {x = x} {method = method} {arguments = arguments} calls is ill agree some =
    stops-ill some (λ below.
    let t : State = at (begun_world w (suc (length (to ++ below))) x m method arguments) (top_of o m arguments w.store.connections.last method.work ∷ to ++ below) in (
      t,
      calls.gives below t (begins-there w arguments (from ++ below) (to ++ below) is refl),
      agree.acyclic,
      λ (well : IsWell p (at w (from ++ below)) t). ill (fit-typed is (fits-top w.store.connections.last method.work (to ++ below) is (well.arguments (omega (arith, calls.no_lower, length-append from below, length-append to below))))),
    ))

-- ---- a connection is used

-- what is found of a method before the connection is used holds after it
pub begun-used : {p : Loaded} {d n o m : ℕ} {w : World} {arguments : List Value} {line : Entry} {work : Work} {last : ℕ} (c : Connection) → IsActivated p d n w o m arguments line work last → IsActivated p d n (having_used w c) o m arguments line work last
begun-used {w = w} c x = record { room = x.room; object = x.object; method = x.method; is = x.is; is_line = x.is_line; is_work = x.is_work; is_last = x.is_last ∙ sym (last-used c w.store.connections) }

-- a connection that comes next begins its method, where it reaches its receiver at once
pub delivery-calls : {p : Loaded} {natives : NativeAnswers} {w : World} {c : Connection} {x : Object} {method : MetaMethod} {arguments taken : List Value} {count : ℕ} (o g used last : ℕ) → next_used w.store.tree w.store.connections.connections o g used last ≡ Some c → IsMember p w.store.tree c.receiver c.method x method → taken ≡ take count arguments → count ≡ length method.types → {home : ℕ} → home_of w.store.tree c.receiver ≡ Some home → reaches_at_once c.kind home (running w.turn) ≡ true → CallsIn p natives w (having_used w c) (Emit o g arguments used last ∷ []) (Emit o g arguments c.number last ∷ []) c.receiver c.method taken
delivery-calls {p} {natives} {w} {c} {x} {method} {arguments} {taken} {count} o g used last found is cut count_is {home} lives at_once = record {
  no_lower = omega arith;
  objects = refl;
  goes_on = λ below. not-idle w _ below;
  gives = λ below t b.
      let s : State = at w (Emit o g arguments used last ∷ below) in
      let over : List Activation = Emit o g arguments c.number last ∷ below in
      let same : method ≡ b.method = member-method is b.is in
      let taken_is : taken ≡ take (length b.method.types) arguments = cut ∙ ap (λ (n : ℕ). take n arguments) count_is ∙ ap (λ (k : MetaMethod). take (length k.types) arguments) same in
      let begins : t ≡ begun (with_used s c) over c.receiver b.object c.method b.method (take (length b.method.types) arguments) b.method.work = b.gives ∙ ap (λ (l : List Value). begun (with_used s c) over c.receiver b.object c.method b.method l b.method.work) taken_is in
      let Arrive : Bool → Type 0 = λ n. Arrives (with_used s c) over home c.receiver b.object c.method b.method (take (length b.method.types) arguments) t n in
      let uses : Uses p s over c arguments t = record {
        receiver = b.object;
        method = b.method;
        is = b.is;
        home = home;
        lives_in = lives;
        arrives = subst Arrive (sym at_once) begins;
      } in
      let Next : Option Connection → Type 0 = λ n. EmitRule p s o g arguments last below t n in
      subst Next (sym found) uses;
}

-- .. and else posts a call of it
pub ends-posted : {p : Loaded} {natives : NativeAnswers} {d : ℕ} {h : List (Option ℕ)} {w v : World} {c : Connection} {x : Object} {method : MetaMethod} {arguments taken : List Value} {count : ℕ} (o g used last n : ℕ) (r : Result (Unit {0}) Fault) → next_used w.store.tree w.store.connections.connections o g used last ≡ Some c → IsMember p w.store.tree c.receiver c.method x method → taken ≡ take count arguments → count ≡ length method.types → {home : ℕ} → home_of w.store.tree c.receiver ≡ Some home → reaches_at_once c.kind home (running w.turn) ≡ false → length h < d → AgreeIn p w → 0 < w.left → n ≡ length h + 1 → PostsCall p w n c c.receiver c.method taken v r → RunsTo p natives d h w (Emit o g arguments used last ∷ []) v (Emit o g arguments c.number last ∷ []) r
ends-posted {p} {natives} {w = w} {v = v} {c = c} {x = x} {method = method} {arguments = arguments} {taken = taken} o g used last n r found is cut count_is {home} lives later room agree some n_is posts =
    let target : World = posting (having_used w c) (entry_of_post w n posts.name posts.object posts.method taken ∷ []) posts.home (Call c.receiver c.method taken) in
    ends-noted target r
    (λ below k.
    let s : State = at w (Emit o g arguments used last ∷ below) in
    let over : List Activation = Emit o g arguments c.number last ∷ below in
    let same : method ≡ posts.method = member-method is posts.is in
    let taken_is : taken ≡ take (length posts.method.types) arguments = cut ∙ ap (λ (i : ℕ). take i arguments) count_is ∙ ap (λ (y : MetaMethod). take (length y.types) arguments) same in
    let depth_is : n ≡ suc (length below) = omega (arith, n_is, high below k) in
    let to : State = at target over in
    let with_depth : ℕ → State = λ i. at (posting (having_used w c) (entry_of_post w i posts.name posts.object posts.method taken ∷ []) posts.home (Call c.receiver c.method taken)) over in
    let put : to ≡ posted (with_used s c) over posts.name posts.home c.receiver posts.object c.method posts.method (take (length posts.method.types) arguments) = ap with_depth depth_is ∙ ap (λ (l : List Value). posted (with_used s c) over posts.name posts.home c.receiver posts.object c.method posts.method l) taken_is in
    let both : Some home ≡ Some posts.home = sym lives ∙ posts.lives_in in
    let home_is : home ≡ posts.home = cc both in
    let not_now : reaches_at_once c.kind posts.home (running w.turn) ≡ false = ap (λ (i : ℕ). reaches_at_once c.kind i (running w.turn)) (sym home_is) ∙ later in
    let Arrive : Bool → Type 0 = λ b. Arrives (with_used s c) over posts.home c.receiver posts.object c.method posts.method (take (length posts.method.types) arguments) to b in
    let uses : Uses p s over c arguments to = record {
      receiver = posts.object;
      method = posts.method;
      is = posts.is;
      home = posts.home;
      lives_in = posts.lives_in;
      arrives = subst Arrive (sym not_now) (record { name = posts.name; is_loop = posts.is_loop; gives = put });
    } in
    let Next : Option Connection → Type 0 = λ y. EmitRule p s o g arguments last below to y in
    subst Next (sym found) uses)
    (λ o gone. gone) room agree refl some posts.becomes

-- ---- what a method does

-- what is found of a method that may begin is what it does
pub begun-work : {p : Loaded} {d n o m : ℕ} {w : World} {arguments : List Value} {line : Entry} {work : Work} {last : ℕ} → IsActivated p d n w o m arguments line work last → DoesWork p w.store.tree o m work
begun-work x = record { object = x.object; method = x.method; is = x.is; is_work = x.is_work }

-- .. also in a world with the same objects
pub work-at : {p : Loaded} {o m : ℕ} {work : Work} {a b : List Object} → b ≡ a → DoesWork p a o m work → DoesWork p b o m work
work-at {p} {o} {m} {work} same does = subst (λ (l : List Object). DoesWork p l o m work) (sym same) does
