-- Runs read nothing of the trace and only add to it, so what was written before may be in front of it or not.
use Rattle.std.proofs.Common.{◌≡◌, ℕ, ◌+◌, true, false, List, [], ◌∷◌, ◌++◌, Result, Ok, Err, Some, ap, sym, subst, append_assoc}
use Rattle.script_lang.specs.declared.event.Event.{Event}
use Rattle.script_lang.specs.declared.event.Event.TheVariants as event
use Rattle.meta_model.specs.Loaded.{Loaded}
use Rattle.object_tree.specs.{Objects.{change_life, blocked}, Creating.{fresh, initial_values}}
use Rattle.event_loops.specs.Queues.{with_loop}
use Rattle.machine_state.specs.{Accepting.{accepted, refused}, State.{State, IsIdle}, Telling.{Alone}, Worlds.{begun_turn, with_store, with_connection, without_connections}}
use Rattle.trace_entries.specs.{Refusals.{refusal_number}, declared.entry.Entry.{Entry}, declared.fault.Answer.{Answer}, declared.fault.Answer.TheVariants.{Refused}, declared.fault.Fault.{Fault}, declared.refusal.Refusal.{Refusal}}
use Rattle.trace_entries.specs.declared.entry.Entry.TheVariants as entry
use Rattle.binding_graph.specs.{Places.{property_of}, declared.binding.Binding.{Binding}}
use Rattle.machine_rules.specs.{Destroying.{deleting, Schedules}, Next.{WritesIll}, Good.{IsWell, IsGood}, Judgement.{Then, goes_on, ends, Gives, gives, Becomes, becomes}, Natives.{NativeAnswers}, Rules.{Begins}, Settling.{Writes, Installs}}
use Rattle.object_machine.{specs.Causes.{BindsNext, Brings, StopsFor, spent, short, brings, lacks_value, writes_ill, binds_ill, goes_ill, goes_fatal, binds_loop, writes_deep, goes_deep}, specs.Events.{judged}, specs.Laws.{in_front, RunReadsNoTrace}, specs.Runs.{Run, done, goes, takes, Each, GoodRun, Follows, by_rule, by_event, IsDue, goes_on as is_under_way, is_next}, specs.Takes.{Takes, accepts, refuses}, proofs.RulePrefixes.{reads-no-trace, begins-front, writes-front, installs-front, schedules-front}}

module _ (front : List Entry) where
  abbrev shifted : Result State Refusal → Result State Refusal
  shifted (Ok t) = Ok (in_front front t)
  shifted (Err k) = Err k

  -- ---- judgements

  then-front : {X : Type 0} {First : Result X Refusal → Type 0} {Next Later : X → Result State Refusal → Type 0} {r : Result State Refusal} → ((x : X) (q : Result State Refusal) → Next x q → Later x (shifted q)) → Then First Next r → Then First Later (shifted r)
  then-front go (goes_on x f n) = goes_on x f (go x _ n)
  then-front go (ends f) = ends f

  gives-front : {u v : State} {r : Result State Refusal} → in_front front u ≡ v → Gives u r → Gives v (shifted r)
  gives-front {u} {v} e gives = subst (λ (w : State). Gives w (Ok (in_front front u))) e gives

  becomes-front : {Is Was : State → Type 0} {r : Result State Refusal} → ((t : State) → Is t → Was (in_front front t)) → Becomes Is r → Becomes Was (shifted r)
  becomes-front go (becomes x) = becomes (go _ x)

  accepted-front : (s : State) → in_front front (accepted s) ≡ accepted (in_front front s)
  accepted-front s = ap (λ (trace : List Entry). record s { events = s.events + 1; trace = trace }) (sym (append_assoc front s.trace (entry.Accepted (s.events + 1) ∷ [])))

  refused-front : (s : State) (r : Refusal) → in_front front (refused s r) ≡ refused (in_front front s) r
  refused-front s r = ap (λ (trace : List Entry). record s { events = s.events + 1; trace = trace }) (sym (append_assoc front s.trace (entry.Refused (s.events + 1) (refusal_number r) ∷ [])))

  idle-front : {s : State} → IsIdle s → IsIdle (in_front front s)
  idle-front idle = record { empty = idle.empty; no_turn = idle.no_turn }

  judged-front : (p : Loaded) (s : State) (e : Event) (r : Result State Refusal) → judged p s e r → judged p (in_front front s) e (shifted r)
  judged-front p s (event.Loop name) r x =
      then-front (λ free q n. gives-front (ap (λ (u : State). record u { queues = with_loop name s.queues }) (accepted-front s)) n) x
  judged-front p s (event.Turn name) r x =
      then-front (λ home q n. gives-front (ap (λ (u : State). begun_turn u home) (accepted-front s)) n) x
  judged-front p s (event.New name class loop) r x =
      then-front (λ free q n. then-front (λ c q n. then-front (λ home q n. then-front (λ few q n.
      gives-front (ap (λ (u : State). record u { objects = s.objects ++ fresh name c.number home (initial_values c.it) ∷ [] }) (accepted-front s)) n) n) n) n) x
  judged-front p s (event.Adopt parent child) r x =
      then-front (λ a q n. then-front (λ c q n. then-front (λ owned q n. then-front (λ above q n. then-front (λ home q n.
      then-front (λ objects q n. gives-front (ap (λ (u : State). record u { objects = objects }) (accepted-front s)) n) n) n) n) n) n) x
  judged-front p s (event.Move name loop) r x =
      then-front (λ o q n. then-front (λ home q n. then-front (λ alone q n. then-front (λ bound q n.
      then-front (λ store q n. gives-front (ap (λ (u : State). with_store u store) (accepted-front s)) n) n) n) n) n) x
  judged-front p s (event.Connect joins how) r x =
      then-front (λ f q n. then-front (λ may q n. gives-front (ap (λ (u : State). with_connection u f.ends how) (accepted-front s)) n) n) x
  judged-front p s (event.Disconnect joins) r x =
      then-front (λ f q n. then-front (λ may q n. gives-front (ap (λ (u : State). without_connections u f.ends) (accepted-front s)) n) n) x
  judged-front p s (event.Set name property i) r x =
      then-front (λ o q n. then-front (λ k q n. then-front (λ v q n. then-front (λ typed q n.
      becomes-front (λ t y. subst (λ (u : State). Writes p u s.stack (Alone (property_of o.number k.number) v) (in_front front t)) (accepted-front s) (writes-front front p (accepted s) t y)) n) n) n) n) x
  judged-front p s (event.Emit name signal inputs) r x =
      then-front (λ o q n. then-front (λ m q n. then-front (λ vs q n. then-front (λ typed q n.
      becomes-front (λ t y. subst (λ (u : State). Begins p u s.stack o.number m.number vs (in_front front t)) (accepted-front s) (begins-front front p (accepted s) t y)) n) n) n) n) x
  judged-front p s (event.Call name slot inputs) r x =
      then-front (λ o q n. then-front (λ m q n. then-front (λ vs q n. then-front (λ typed q n.
      becomes-front (λ t y. subst (λ (u : State). Begins p u s.stack o.number m.number vs (in_front front t)) (accepted-front s) (begins-front front p (accepted s) t y)) n) n) n) n) x
  judged-front p s (event.Bind site target sources) r x =
      then-front (λ b q n. becomes-front (λ t y. subst (λ (u : State). Installs p u s.stack b (in_front front t)) (accepted-front s) (installs-front front p (accepted s) t y)) n) x
  judged-front p s (event.Block name) r x =
      then-front (λ o q n. gives-front (ap (λ (u : State). record u { objects = change_life o.number (blocked true) s.objects }) (accepted-front s)) n) x
  judged-front p s (event.Unblock name) r x =
      then-front (λ o q n. gives-front (ap (λ (u : State). record u { objects = change_life o.number (blocked false) s.objects }) (accepted-front s)) n) x
  judged-front p s (event.Delete name) r x =
      then-front (λ o q n. gives-front (ap (λ (u : State). deleting u s.stack o.number) (accepted-front s)) n) x
  judged-front p s (event.Later name) r x =
      then-front (λ o q n. becomes-front (λ t y. subst (λ (u : State). Schedules u s.stack o.number (in_front front t) (Some o.it)) (accepted-front s) (schedules-front front p (accepted s) t y)) n) x

  -- ---- runs

  pub takes-front : {p : Loaded} {e : Event} {a : Answer} {s t : State} → Takes p e a s t → Takes p e a (in_front front s) (in_front front t)
  takes-front {p} {e} (accepts {s = s} idle x) = accepts (idle-front idle) (judged-front p s e _ x)
  takes-front {p} {e} (refuses {s = s} r idle x) =
      subst (λ (u : State). Takes p e (Refused (refusal_number r)) (in_front front s) u) (sym (refused-front s r)) (refuses r (idle-front idle) (judged-front p s e _ x))

  -- what is written next doesn't depend on it
  ill-behind : {p : Loaded} (s : State) → WritesIll p (in_front front s) → WritesIll p s
  ill-behind s ill = record { what = ill.what; next = ill.next; set = ill.set; among = ill.among; there = ill.there; ill = ill.ill }

  module _ {p : Loaded} {natives : NativeAnswers} where
    abbrev pub run-front : {s t : State} {n k : ℕ} {es : List Event} {xs : List Answer} → Run p natives s n es xs t k → Run p natives (in_front front s) n es xs (in_front front t) k
    run-front done = done
    run-front (goes {s = s} {m = m} x rest) = goes (reads-no-trace natives p front s m x) (run-front rest)
    run-front (takes x rest) = takes (takes-front x) (run-front rest)

    -- what holds of each step, whatever was written before, holds of each step then
    pub each-front : (Holds Held : State → State → Type 0) {s t : State} {n k : ℕ} {es : List Event} {xs : List Answer} → ((u v : State) → Holds u v → Held (in_front front u) (in_front front v)) →
        (run : Run p natives s n es xs t k) → Each Holds run → Each Held (run-front run)
    each-front Holds Held go done all = tt
    each-front Holds Held go (goes {s = s} {m = m} x rest) all = (go s m all.0, each-front Holds Held go rest all.1)
    each-front Holds Held go (takes {s = s} {m = m} x rest) all = (go s m all.0, each-front Holds Held go rest all.1)

    -- .. and the other way round
    pub each-behind : (Holds Held : State → State → Type 0) {s t : State} {n k : ℕ} {es : List Event} {xs : List Answer} → ((u v : State) → Held (in_front front u) (in_front front v) → Holds u v) →
        (run : Run p natives s n es xs t k) → Each Held (run-front run) → Each Holds run
    each-behind Holds Held go done all = tt
    each-behind Holds Held go (goes {s = s} {m = m} x rest) all = (go s m all.0, each-behind Holds Held go rest all.1)
    each-behind Holds Held go (takes {s = s} {m = m} x rest) all = (go s m all.0, each-behind Holds Held go rest all.1)

    pub good-front : {d : ℕ} {s t : State} {n k : ℕ} {es : List Event} {xs : List Answer} → GoodRun p natives d s n es xs t k → GoodRun p natives d (in_front front s) n es xs (in_front front t) k
    good-front {d} x = record {
      run = run-front x.run;
      good = each-front (IsGood p d) (IsGood p d)
          (λ u v good. record {
            well = record { arguments = good.well.arguments; values = good.well.values };
            spared = good.spared;
            acyclic = good.acyclic;
            shallow = good.shallow;
            fits = λ ill. good.fits (ill-behind u ill);
          })
          x.run x.good;
    }

  -- ---- why a run stops

  idle-behind : {s : State} → IsIdle (in_front front s) → IsIdle s
  idle-behind idle = record { empty = idle.empty; no_turn = idle.no_turn }

  due-front : {s : State} {es : List Event} → IsDue s es → IsDue (in_front front s) es
  due-front (is_under_way busy) = is_under_way (λ idle. busy (idle-behind idle))
  due-front (is_next idle) = is_next (idle-front idle)

  pub writes-ill-front : {p : Loaded} {s : State} → WritesIll p s → WritesIll p (in_front front s)
  writes-ill-front x = record {
    what = x.what;
    next = x.next;
    set = x.set;
    among = x.among;
    there = x.there;
    ill = x.ill;
  }

  module _ {p : Loaded} {s : State} where
    binds-next-front : {es : List Event} {b : Binding} → BindsNext p s es b → BindsNext p (in_front front s) es b
    binds-next-front x = record {
      idle = idle-front x.idle;
      site = x.site;
      target = x.target;
      sources = x.sources;
      rest = x.rest;
      is_next = x.is_next;
      may = x.may;
    }

    well-front : {t : State} → IsWell p s t → IsWell p (in_front front s) (in_front front t)
    well-front x = record { arguments = x.arguments; values = x.values }

    well-behind : {t : State} → IsWell p (in_front front s) (in_front front t) → IsWell p s t
    well-behind x = record { arguments = x.arguments; values = x.values }

    module _ {natives : NativeAnswers} where
      follows-front : {t : State} {es : List Event} → Follows p natives s t es → Follows p natives (in_front front s) (in_front front t) es
      follows-front {t} (by_rule x) = by_rule (reads-no-trace natives p front s t x)
      follows-front (by_event x) = by_event (takes-front x)

      brings-front : {d : ℕ} {es : List Event} {f : Fault} → Brings p natives d s es f → Brings p natives d (in_front front s) es f
      brings-front (lacks_value x) = lacks_value x
      brings-front (writes_ill x) = writes_ill (writes-ill-front x)
      brings-front (binds_ill x) = binds_ill (record { binding = x.binding; next = binds-next-front x.next; ill = x.ill })
      brings-front (goes_ill x) = goes_ill (record { t = in_front front x.t; follows = follows-front x.follows; acyclic = x.acyclic; ill = λ well. x.ill (well-behind well) })
      brings-front (goes_fatal x) = goes_fatal (record { t = in_front front x.t; follows = follows-front x.follows; well = well-front x.well; fatal = x.fatal })
      brings-front (binds_loop x) = binds_loop (record { binding = x.binding; next = binds-next-front x.next; fit = x.fit; closes = x.closes })
      brings-front (writes_deep x) = writes_deep (record { what = x.what; next = x.next; fit = x.fit; deep = x.deep })
      brings-front (goes_deep x) = goes_deep (record {
        t = in_front front x.t;
        follows = follows-front x.follows;
        well = well-front x.well;
        spared = x.spared;
        acyclic = x.acyclic;
        fits = λ ill. x.fits (ill-behind s ill);
        deep = x.deep;
      })

      pub stops-front : {d left : ℕ} {es : List Event} {f : Fault} → StopsFor p natives d s left es f → StopsFor p natives d (in_front front s) left es f
      stops-front (spent none due) = spent none (due-front due)
      stops-front (short some due) = short some (due-front due)
      stops-front (brings some x) = brings some (brings-front x)

pub run-reads-no-trace : (natives : NativeAnswers) → RunReadsNoTrace natives
run-reads-no-trace natives p front s t n k events answers x = run-front front x
