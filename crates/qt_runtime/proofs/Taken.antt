-- What the taking of an event comes to.
use Rattle.std.{proofs.Common.{◌≡◌, ℕ, suc, ◌-◌, ◌<◌, ◌≤◌, List, [], ◌∷◌, Some, None, Result, Ok, Err, refl, sym, ap, ◌∙◌, subst, arith}, specs.Result.{IsErrAnd}}
use Rattle.script_lang.specs.declared.event.Event.{Event}
use Rattle.meta_model.specs.Loaded.{Loaded}
use Rattle.trace_entries.specs.{declared.fault.Answer.{Answer}, declared.fault.Fault.{Fault}, declared.fault.Fault.TheVariants.{Steps, Memory}, declared.refusal.Refusal.{Refusal}, Refusals.{refusal_number}}
use Rattle.trace_entries.specs.declared.fault.Answer.TheVariants as answer
use Rattle.machine_state.specs.{declared.world.World.{World}, Accepting.{refused}, State.{State, Activation, IsIdle}, Worlds.{at, after}, code.Changing.{Rejects}}
use Rattle.machine_rules.specs.{Natives.{NativeAnswers}, Good.{IsGood, TopFits}, Next.{WritesIll}, Operations.{Write}, code.Going.{GoodRules}}
use Rattle.binding_graph.specs.{declared.binding.Binding.{Binding}, Bindings.{binding_at, Loop}}
use Rattle.prop_bindings.specs.Fits.{Agree}
use Rattle.machine_rules.specs.code.Going as of_rules
use Rattle.object_machine.{specs.declared.not_accepted.NotAccepted.{NotAccepted}, specs.code.Judgement.{IsNotAccepted}, specs.Runs.{GoodRun, RunsWhole, done, takes, is_next, by_event}, specs.Takes.{Takes, accepts, refuses}, proofs.Running.{rules-run}, specs.Causes.{Halts, short, spent, brings, goes_ill}}
use Rattle.object_machine.specs.code.Judgement as not_accepted
use Rattle.qt_runtime.specs.{code.Quiet.{IsRefused, Stops, TookQuietly}, code.Taking.{SaysWhy, Took}}
use Rattle.qt_runtime.specs.code.Quiet as before
use Rattle.object_machine.specs.Events.{judged}

-- an event is taken, and rules follow
pub runs-taken : {p : Loaded} {natives : NativeAnswers} {d : ℕ} {a : Answer} {s m t : State} {n j k : ℕ} (e : Event) → Takes p e a s m → IsGood p d s m → 0 < n → j ≡ n - 1 → GoodRules p natives d m j t k → GoodRun p natives d s n (e ∷ []) (a ∷ []) t k
runs-taken {p} {natives} {d} {a} {s} {m} {t} {n} {j} {k} e x good some less rest =
    let Family : ℕ → Type 0 = λ i. GoodRun p natives d s i (e ∷ []) (a ∷ []) t k in
    let suc_is : suc j ≡ n = omega (arith, less, some) in
    let after : GoodRun p natives d m j [] [] t k = rules-run rest in
    subst Family suc_is (record { run = takes x after.run; good = (good, after.good) })

-- where nothing is going on, nothing is written next
nothing-written : {p : Loaded} (w : World) → ¬ WritesIll p (at w [])
nothing-written w ill = let no : None ≡ Some (Write ill.what) = ill.next in absurd (cc no)

-- an event that pushes nothing is good where objects and bindings agree
pub good-quiet : {p : Loaded} {d : ℕ} (w v : World) → Agree p v.store.tree v.store.bindings → IsGood p d (at w []) (at v [])
good-quiet w v agree = record { well = record { arguments = λ more. absurd (omega (arith, more)); values = agree.typed }; spared = λ o body gone. absurd (cc body); acyclic = agree.acyclic; shallow = omega arith; fits = nothing-written w }

-- .. and one that pushes an activation where its arguments fit too
pub good-pushed : {p : Loaded} {d : ℕ} {top : Activation} (w v : World) → Agree p v.store.tree v.store.bindings → TopFits p v.store.tree (top ∷ []) → 1 ≤ d → IsGood p d (at w []) (at v (top ∷ []))
good-pushed w v agree fit room = record { well = record { arguments = λ more. fit; values = agree.typed }; spared = λ o body gone. absurd (cc body); acyclic = agree.acyclic; shallow = omega (arith, room); fits = nothing-written w }

-- a run that hasn't begun
pub none-yet : {p : Loaded} {natives : NativeAnswers} {d : ℕ} {s : State} {n : ℕ} → GoodRun p natives d s n [] [] s n
none-yet = record { run = done; good = tt }

-- natives that answer nothing
abbrev pub no_natives : NativeAnswers
no_natives class sig arguments reads actions = ⊥

-- nothing is going on where no activation is and no turn goes on
pub idle : (w : World) → w.turn ≡ None → IsIdle (at w [])
idle w none = record { empty = refl; no_turn = none }

-- a rule is left, and no turn goes on
pub record Ready (w : World) : Type 0 where
  pub some : 0 < w.left
  pub no_turn : w.turn ≡ None

pub ready : {w : World} → 0 < w.left → w.turn ≡ None → Ready w
ready some none = record { some = some; no_turn = none }

-- memory was refused before anything changed
pub halted-short : {p : Loaded} {natives : NativeAnswers} {d : ℕ} {w : World} (e : Event) → Ready w → Halts p natives d w (e ∷ []) Memory w
halted-short {w = w} e some = record { stack = []; front = record { taken = []; rest = e ∷ []; split = refl; answers = []; runs = none-yet }; cause = short some.some (is_next (idle w some.no_turn)) }

-- no rule is left for the event
pub halted-spent : {p : Loaded} {natives : NativeAnswers} {d : ℕ} {w : World} (e : Event) → w.left ≡ 0 → w.turn ≡ None → Halts p natives d w (e ∷ []) Steps w
halted-spent {w = w} e none no_turn = record { stack = []; front = record { taken = []; rest = e ∷ []; split = refl; answers = []; runs = none-yet }; cause = spent none (is_next (idle w no_turn)) }

pub took-unchanged : {p : Loaded} {natives : NativeAnswers} {d : ℕ} {w v : World} {f : Fault} (e : Event) (r : Result Answer Fault) → Ready w → (f ≡ Memory) × (v ≡ w) → IsErrAnd r (λ y. y ≡ f) → Took p natives d w e v r
took-unchanged e (Ok a) some same is = absurd is
took-unchanged {p} {natives} {d} {w} {v} {f} e (Err y) some same is =
    let Family : World → Type 0 = λ u. Halts p natives d w (e ∷ []) y u in
    let Named : Fault → Type 0 = λ g. Halts p natives d w (e ∷ []) g w in
    record { cases = subst Family (sym same.1) (subst Named (sym (is ∙ same.0)) (halted-short e some)) }

pub took-short : {p : Loaded} {natives : NativeAnswers} {d : ℕ} {w : World} (e : Event) (r : Result Answer Fault) → Ready w → IsErrAnd r (λ y. y ≡ Memory) → Took p natives d w e w r
took-short e r some is = took-unchanged e r some (refl, refl) is

-- the run stopped, behind a `?`
pub took-stopped : {p : Loaded} {natives : NativeAnswers} {d : ℕ} {w v : World} {f : Fault} (e : Event) (r : Result Answer Fault) → Halts p natives d w (e ∷ []) f v → IsErrAnd r (λ y. y ≡ f) → Took p natives d w e v r
took-stopped e (Ok a) halted is = absurd is
took-stopped {p} {natives} {d} {w} {v} e (Err y) halted is = record { cases = subst (λ (g : Fault). Halts p natives d w (e ∷ []) g v) (sym is) halted }

-- .. where nothing had changed
pub took-halted : {p : Loaded} {natives : NativeAnswers} {d : ℕ} {w v : World} {f : Fault} (e : Event) (r : Result Answer Fault) → Halts p natives d w (e ∷ []) f w → v ≡ w → IsErrAnd r (λ y. y ≡ f) → Took p natives d w e v r
took-halted {p} {natives} {d} {w} {v} e r halted same is = subst (λ (u : World). Took p natives d w e u r) (sym same) (took-stopped e r halted is)

-- the event is refused
pub took-refused : {p : Loaded} {natives : NativeAnswers} {d : ℕ} {w v : World} (k : Refusal) (e : Event) (r : Result Answer Fault) → Agree p w.store.tree w.store.bindings → judged p (at w []) e (Err k) → Ready w → Rejects w k v r → Took p natives d w e v r
took-refused {p} {natives} {d} {w} {v} k e (Ok a) agree judged some x =
    let target : World = after w (refused (at w []) k) in
    let said : Answer = answer.Refused (refusal_number k) in
    let Family : World → Type 0 = λ u. RunsWhole p natives d (at w []) w.left (e ∷ []) (said ∷ []) (at u []) u.left in
    let Answer_is : Answer → Type 0 = λ b. RunsWhole p natives d (at w []) w.left (e ∷ []) (b ∷ []) (at v []) v.left × SaysWhy p w e v b in
    let taken : RunsWhole p natives d (at w []) w.left (e ∷ []) (said ∷ []) (at target []) target.left = record { runs = runs-taken e (refuses k (idle w some.no_turn) judged) (good-quiet w target agree) some.some (omega arith) of_rules.done; ends = idle target some.no_turn } in
    record { cases = subst Answer_is (sym x.0) (subst Family (sym x.1) taken, record { refusal = k; numbered = refl; why = judged; line = x.1 }) }
took-refused k e (Err f) agree judged some x = took-unchanged e (Err f) some x refl

-- .. from a world in which nothing had changed
pub took-refused-from : {p : Loaded} {natives : NativeAnswers} {d : ℕ} {w u v : World} (k : Refusal) (e : Event) (r : Result Answer Fault) → Agree p w.store.tree w.store.bindings → judged p (at w []) e (Err k) → Ready w → u ≡ w → Rejects u k v r → Took p natives d w e v r
took-refused-from {v = v} k e r agree judged some same x =
    let From : World → Type 0 = λ z. Rejects z k v r in
    took-refused k e r agree judged some (subst From same x)

-- the event isn't accepted
pub took-not-accepted : {p : Loaded} {natives : NativeAnswers} {d : ℕ} {w v : World} {n : NotAccepted} (e : Event) (r : Result Answer Fault) → Agree p w.store.tree w.store.bindings → IsNotAccepted (judged p (at w []) e) n → Ready w → IsRefused w n v r → Took p natives d w e v r
took-not-accepted e r agree (not_accepted.refused {k = k} not) some x = took-refused k e r agree not some x
took-not-accepted {p} {natives} {d} {w} e r agree not_accepted.short some x =
    let Answers : Result Answer Fault → Type 0 = λ a. Took p natives d w e w a in
    let In : World → Type 0 = λ u. Took p natives d w e u r in
    subst In (sym x.1) (subst Answers (sym x.0) (record { cases = halted-short e some }))

-- the event is accepted, and nothing is going on after it
pub took-quiet : {p : Loaded} {natives : NativeAnswers} {d : ℕ} {w v : World} (t : State) (e : Event) → judged p (at w []) e (Ok t) → at (after w t) [] ≡ t → Agree p t.objects t.bindings → Ready w → t.turn ≡ None → v ≡ after w t → Took p natives d w e v (Ok answer.Done)
took-quiet {p} {natives} {d} {w} {v} t e judged empty agree some no_turn is =
    let Family : World → Type 0 = λ u. RunsWhole p natives d (at w []) w.left (e ∷ []) (answer.Done ∷ []) (at u []) u.left in
    let Leads : State → Type 0 = λ u. Takes p e answer.Done (at w []) u in
    let quiet : World = after w t in
    let taken : RunsWhole p natives d (at w []) w.left (e ∷ []) (answer.Done ∷ []) (at quiet []) quiet.left = record { ends = idle quiet no_turn; runs = runs-taken e (subst Leads (sym empty) (accepts (idle w some.no_turn) judged)) (good-quiet w (after w t) agree) some.some (omega arith) of_rules.done } in
    record { cases = (subst Family (sym is) taken, tt) }

-- ---- what is taken quietly is taken, whatever natives answer and however deep calls may nest

stops-halted : {p : Loaded} {natives : NativeAnswers} {d : ℕ} {w : World} {f : Fault} (e : Event) → Agree p w.store.tree w.store.bindings → Ready w → Stops p w e f → Halts p natives d w (e ∷ []) f w
stops-halted e agree some before.short = halted-short e some
stops-halted {w = w} e agree some (before.ill {t = t} judged same not_well) = record {
  stack = [];
  front = record { taken = []; rest = e ∷ []; split = refl; answers = []; runs = none-yet };
  cause = brings some.some (goes_ill (record { t = t; follows = by_event (accepts (idle w some.no_turn) judged); acyclic = let NoLoop : List Binding → Type 0 = λ bs. ¬ Loop (binding_at bs) in subst NoLoop (sym same) agree.acyclic; ill = not_well }));
}

pub took-quietly : {p : Loaded} {natives : NativeAnswers} {d : ℕ} {w v : World} (e : Event) (r : Result Answer Fault) → Agree p w.store.tree w.store.bindings → Ready w → TookQuietly p w e v r → Took p natives d w e v r
took-quietly e (Ok answer.Done) agree some took =
    let is = took.cases in
    took-quiet is.state e is.accepted is.empty is.agree some is.no_turn is.gives
took-quietly e (Ok (answer.Refused n)) agree some took =
    let is = took.cases in
    took-refused is.refusal e (Ok (answer.Refused n)) agree is.why some (ap answer.Refused is.numbered, is.line)
took-quietly e (Err f) agree some took = took-halted e (Err f) (stops-halted e agree some took.cases.0) took.cases.1 refl
