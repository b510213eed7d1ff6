-- Connections that statements make and remove.
use Rattle.std.{proofs.Common.{◌≡◌, ◌&&◌, Bool, true, false, IsTrue, Option, Some, ℕ, ◌-◌, List, [], ◌∷◌, length, Result, Ok, Err, MatchResult, refl, sym, ap, ◌∙◌, subst, inr, None, ◌<◌, arith}, specs.Option.{option_map}}
use Rattle.syntax_trees.specs.{declared.connection.ConnectionType.{ConnectionType}, declared.connection.Endpoints.{Endpoints as Named}}
use Rattle.meta_model.specs.{Loaded.{Loaded}, declared.object.MetaMethod.{MetaMethod}, Members.{IsMethod}}
use Rattle.object_tree.{specs.declared.life.Life.{Life}, specs.declared.object.Object.{Object}, specs.Objects.{Lives, IsGone, life_of}, proofs.Changing.{life-of-lives, lives-of-life}}
use Rattle.machine_rules.{specs.There.{IsDead, NoneDied}, specs.code.Sound.{AgreeIn}, specs.Destroying.{Schedules, TellsSchedule, scheduled_now}, proofs.Dying.{scheduled-seen}, proofs.Differing.{scheduled-agree}, specs.Connecting.{AreThere, kept_ends, may_disconnect}, specs.Rules.{Connects, Disconnects}, proofs.Fields.{member-at}, proofs.Fitting.{named-there}, proofs.Scheduling.{schedules-none, schedules-before}}
use Rattle.delete_later.specs.{declared.store.Store.{Store}, Scheduling.{deferred_to, scheduled_in}}
use Rattle.machine_state.{proofs.Deferring.{scheduled-now}, specs.declared.endpoints.Endpoints.{Endpoints}, specs.declared.world.World.{World}, specs.State.{State, Activation}, specs.Worlds.{at}, specs.code.Changing.{noted, connecting, disconnecting, scheduling, GoesTo, ticked, Ticks}}
use Rattle.event_loops.specs.Queues.{name_at}
use Rattle.prop_bindings.specs.Fits.{Agree}
use Rattle.trace_entries.specs.{declared.entry.Entry.{Entry}, declared.entry.Entry.TheVariants.{At}, declared.entry.EntryKind.TheVariants.{Connected, Disconnected, Refused, Scheduled}, declared.fault.Fault.{Fault}, declared.refusal.Refusal.{Refusal}, declared.refusal.Refusal.TheVariants.{NoConnection}, Refusals.{refusal_number}}
use Rattle.run_context.specs.code.Statements.{IsJudged, LacksEnds, NamesEnds, Went, Stalls, ConnectsIn, DisconnectsIn, SchedulesIn}

-- where the ends that are spelled are there, those are that a connection keeps
pub kept-there : {p : Loaded} {objects : List Object} {ends : Endpoints} → AreThere p objects ends → AreThere p objects (kept_ends ends)
kept-there {ends = ends} spelled =
    let kept = named-there ends.signal spelled.sends.is_method in
    record {
      sender = spelled.sender;
      signal = kept.0;
      sends = record { life = spelled.sends.life; lives = spelled.sends.lives; is_method = kept.1 };
      receiver = spelled.receiver;
      method = spelled.method;
      receives = spelled.receives;
    }

-- a class that lacks the signal, or the method
pub lacks-signal : {p : Loaded} {objects : List Object} {ends : Endpoints} {x : Object} {l : Life} → Lives objects ends.sender x l → ((m : MetaMethod) → ¬ IsMethod p l.class ends.signal m) → LacksEnds p objects ends
lacks-signal lives none there = none there.signal (member-at lives there.sends)

pub lacks-method : {p : Loaded} {objects : List Object} {ends : Endpoints} {x : Object} {l : Life} → Lives objects ends.receiver x l → ((m : MetaMethod) → ¬ IsMethod p l.class ends.method m) → LacksEnds p objects ends
lacks-method lives none there = none there.method (member-at lives there.receives)

-- a test that fails
pub not-true : (b : Bool) → b ≡ false → ¬ IsTrue b
not-true true e h = absurd (cc e)
not-true false e h = absurd (cc h)

-- two tests, of which both hold, or one fails
pub both-hold : (a b : Bool) → a ≡ true → b ≡ true → IsTrue (a && b)
both-hold true true e f = refl
both-hold true false e f = absurd (cc f)
both-hold false b e f = absurd (cc e)

pub first-fails : (a b : Bool) → a ≡ false → ¬ IsTrue (a && b)
first-fails true b e h = absurd (cc e)
first-fails false b e h = absurd (cc h)

pub second-fails : (a b : Bool) → b ≡ false → ¬ IsTrue (a && b)
second-fails true true e h = absurd (cc e)
second-fails true false e h = absurd (cc h)
second-fails false b e h = absurd (cc h)

-- ---- what the code's calls come to

module _ (What : State → List Activation → State → Type 0) (w v : World) (depth : ℕ) where
  -- one rule was carried out, to this world where so many activations are on the stack, or memory was refused
  came : (target : ℕ → World) (r : Result (Unit {0}) Fault) → ((old stack : List Activation) → What (at w old) stack (at (target (length stack)) stack)) → ((n : ℕ) (p : Loaded) → AgreeIn p w → AgreeIn p (target n)) → ((n : ℕ) → NoneDied w.store.tree (target n).store.tree) → ((n : ℕ) → (target n).left ≡ w.left - 1) →
      GoesTo w (target depth) v r → MatchResult r (λ _. Went What w depth v) (Stalls What w v)
  came target (Ok _) tells agree spared left v_is = record {
    tells = λ old stack e.
        let In : World → Type 0 = λ u. What (at w old) stack (at u stack) in
        let High : ℕ → Type 0 = λ n. What (at w old) stack (at (target n) stack) in
        subst In (sym v_is) (subst High e (tells old stack));
    agree = λ p before. subst (λ (u : World). AgreeIn p u) (sym v_is) (agree depth p before);
    spared = subst (λ (u : World). NoneDied w.store.tree u.store.tree) (sym v_is) (spared depth);
    left = ap (λ (u : World). u.left) v_is ∙ left depth;
  }
  came target (Err f) tells agree spared left short = record { same = short.1; why = inr short.0 }

-- what isn't scheduled changes nothing
schedule-idle : (w v : World) (depth x : ℕ) (r : Result (Unit {0}) Fault) → ((old stack : List Activation) → Schedules (at w old) stack x (at w stack) (life_of w.store.tree x)) → 0 < w.left → Ticks w v r → SchedulesIn w depth x v r
schedule-idle w v depth x (Ok y) tells some went =
    came (λ s stack t. Schedules s stack x t (life_of s.objects x)) w v depth (λ n. ticked w) (Ok y) tells (λ n p before. before) (λ n o gone. gone) (λ n. refl) went.1
schedule-idle w v depth x (Err f) tells some went = absurd (omega (arith, some, went.0))

-- there is no such living object
pub schedule-gone : (w v : World) (depth x : ℕ) (r : Result (Unit {0}) Fault) → IsGone w.store.tree x → 0 < w.left → Ticks w v r → SchedulesIn w depth x v r
schedule-gone w v depth x r gone some went =
    schedule-idle w v depth x r (λ old stack. subst (λ (life : Option Life). Schedules (at w old) stack x (at w stack) life) (sym (no-life (life_of w.store.tree x) refl)) schedules-none) some went
  where
    no-life : (there : Option Life) → life_of w.store.tree x ≡ there → there ≡ None
    no-life None is = refl
    no-life (Some l) is = let lives = lives-of-life w.store.tree x l is in absurd (gone lives.0 l lives.1)

-- it is scheduled already
pub schedule-again : (w v : World) (depth x : ℕ) {y : Object} {l : Life} (r : Result (Unit {0}) Fault) → Lives w.store.tree x y l → l.scheduled ≡ true → 0 < w.left → Ticks w v r → SchedulesIn w depth x v r
schedule-again w v depth x r lives marked some went =
    schedule-idle w v depth x r (λ old stack. subst (λ (life : Option Life). Schedules (at w old) stack x (at w stack) life) (sym (life-of-lives lives)) (schedules-before marked)) some went

-- an object is scheduled for deletion
pub schedule-made : (w v : World) (depth x : ℕ) {y : Object} {l : Life} {loop : List ℕ} (r : Result (Unit {0}) Fault) → Lives w.store.tree x y l → l.scheduled ≡ false → Some loop ≡ name_at w.store.loops.loops l.home → GoesTo w (scheduling w (At depth (Scheduled loop y.name) ∷ []) x) v r → SchedulesIn w depth x v r
schedule-made w v depth x {y} {l} {loop} r lives unmarked named becomes =
    let life_is : life_of w.store.tree x ≡ Some l = life-of-lives lives in
    let made : scheduled_in x w.store ≡ deferred_to l.home x w.store = scheduled-now x w.store l life_is unmarked in
    let target : ℕ → World = λ n. scheduling w (At n (Scheduled loop y.name) ∷ []) x in
    came (λ s stack t. Schedules s stack x t (life_of s.objects x)) w v depth target r
    (λ old stack.
    let lines : List Entry = At (length stack) (Scheduled loop y.name) ∷ [] in
    let Told : Option Life → Type 0 = λ life. TellsSchedule (at w old) (length stack) x life lines in
    record { lines = lines; told = subst Told (sym life_is) (scheduled_now unmarked (sym named) (ap (option_map (λ (z : Object). z.name)) lives.is)); gives = refl })
    (λ n p before. subst (λ (store : Store). Agree p store.tree store.bindings) (sym made) (scheduled-agree p w.store.tree w.store.bindings x before))
    (λ n o gone. sym (scheduled-seen w.store.tree x o) ∙ subst (λ (store : Store). IsDead store.tree o) made gone)
    (λ n. refl) becomes

module _ (p : Loaded) (w v : World) (depth : ℕ) (ends : Endpoints) where
  -- the connect is refused
  pub connect-refused : {how : ConnectionType} {k : Refusal} (r : Result (Unit {0}) Fault) → IsJudged p w ends how (Err k) → GoesTo w (noted w (At depth (Refused (refusal_number k)) ∷ [])) v r → ConnectsIn p w depth ends how v r
  connect-refused {how = how} {k = k} r j becomes =
      came (λ s stack t. Connects p s stack ends how t) w v depth (λ n. noted w (At n (Refused (refusal_number k)) ∷ [])) r
      (λ old stack. record { spelled = j.spelled; kept = kept-there j.spelled; answer = Err k; judged = j.is; gives = refl })
      (λ n p before. before) (λ n o gone. gone) (λ n. refl) becomes

  -- .. made
  pub connect-made : {how : ConnectionType} {done : Unit {0}} {names : Named (List ℕ)} (r : Result (Unit {0}) Fault) → IsJudged p w ends how (Ok done) → NamesEnds p w.store.tree (kept_ends ends) names → GoesTo w (connecting w (At depth (Connected names how) ∷ []) (kept_ends ends) how) v r → ConnectsIn p w depth ends how v r
  connect-made {how = how} {done = done} {names = names} r j named becomes =
      came (λ s stack t. Connects p s stack ends how t) w v depth (λ n. connecting w (At n (Connected names how) ∷ []) (kept_ends ends) how) r
      (λ old stack. record { spelled = j.spelled; kept = named.there; answer = Ok done; judged = j.is; gives = ap (λ (l : Named (List ℕ)). at (connecting w (At (length stack) (Connected l how) ∷ []) (kept_ends ends) how) stack) named.is })
      (λ n p before. before) (λ n o gone. gone) (λ n. refl) becomes

  -- there is nothing to be removed
  pub disconnect-refused : {names : Named (List ℕ)} (r : Result (Unit {0}) Fault) → NamesEnds p w.store.tree (kept_ends ends) names → may_disconnect w.store.connections (kept_ends ends) (Err NoConnection) → GoesTo w (noted w (At depth (Refused (refusal_number NoConnection)) ∷ [])) v r → DisconnectsIn p w depth ends v r
  disconnect-refused r named judged becomes =
      came (λ s stack t. Disconnects p s stack ends t) w v depth (λ n. noted w (At n (Refused (refusal_number NoConnection)) ∷ [])) r
      (λ old stack. record { kept = named.there; answer = Err NoConnection; judged = judged; gives = refl })
      (λ n p before. before) (λ n o gone. gone) (λ n. refl) becomes

  -- .. it is removed
  pub disconnect-made : {names : Named (List ℕ)} (r : Result (Unit {0}) Fault) → NamesEnds p w.store.tree (kept_ends ends) names → may_disconnect w.store.connections (kept_ends ends) (Ok tt) → GoesTo w (disconnecting w (At depth (Disconnected names) ∷ []) (kept_ends ends)) v r → DisconnectsIn p w depth ends v r
  disconnect-made {names = names} r named judged becomes =
      came (λ s stack t. Disconnects p s stack ends t) w v depth (λ n. disconnecting w (At n (Disconnected names) ∷ []) (kept_ends ends)) r
      (λ old stack. record { kept = named.there; answer = Ok tt; judged = judged; gives = ap (λ (l : Named (List ℕ)). at (disconnecting w (At (length stack) (Disconnected l) ∷ []) (kept_ends ends)) stack) named.is })
      (λ n p before. before) (λ n o gone. gone) (λ n. refl) becomes
