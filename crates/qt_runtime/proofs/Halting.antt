-- What an event comes to for a machine.
use Rattle.std.proofs.Common.{◌≡◌, ℕ, ◌⊎◌, ◌↔◌, Bool, true, false, inl, List, [], ◌∷◌, None, Result, Ok, Err, refl, sym, ap, ◌∙◌, subst, arith}
use Rattle.std.specs.Prelude.{IfOk, IfErr}
use Rattle.std.specs.Result.{is_err}
use Rattle.script_lang.specs.declared.event.Event.{Event}
use Rattle.meta_model.specs.Loaded.{Loaded}
use Rattle.meta_model.specs.Sound.{IsSound}
use Rattle.trace_entries.specs.declared.fault.Answer.{Answer}
use Rattle.trace_entries.specs.declared.fault.Fault.{Fault}
use Rattle.trace_entries.specs.declared.fault.Fault.TheVariants.{Steps}
use Rattle.machine_state.specs.State.{State}
use Rattle.machine_state.specs.declared.world.World.{World}
use Rattle.machine_rules.specs.Natives.{NativeAnswers}
use Rattle.machine_rules.specs.code.Sound.{IsSoundWorld}
use Rattle.object_machine.specs.Seen.{Seen, Completes, RefusesExactly, Halts, Stays}
use Rattle.object_machine.specs.Causes.{Brings, StopsFor, spent, short, brings, lacks_value, writes_ill, binds_ill, goes_ill, goes_fatal, binds_loop, writes_deep, goes_deep}
use Rattle.qt_runtime.specs.code.Taking.{SaysWhy, Took}
use Rattle.object_machine.proofs.OneRun.{first-taken}
use Rattle.object_machine.proofs.OneTaking.{answer-refused}

-- a machine with this world
abbrev pub seen : {N : Type 0} → Loaded → N → ℕ → World → Bool → Seen N
seen p natives depth w stopped = record { program = p; natives = natives; depth = depth; world = w; stopped = stopped }

-- no bad moment is want of rules
not-spent : {p : Loaded} {natives : NativeAnswers} {d : ℕ} {s : State} {es : List Event} {f : Fault} → Brings p natives d s es f → f ≡ Steps → ⊥
not-spent (lacks_value x) is = absurd (cc is)
not-spent (writes_ill x) is = absurd (cc is)
not-spent (binds_ill x) is = absurd (cc is)
not-spent (goes_ill x) is = absurd (cc is)
not-spent (goes_fatal x) is = absurd (cc is)
not-spent (binds_loop x) is = absurd (cc is)
not-spent (writes_deep x) is = absurd (cc is)
not-spent (goes_deep x) is = absurd (cc is)

-- what stops for want of rules has none left ..
spent-left : {p : Loaded} {natives : NativeAnswers} {d : ℕ} {s : State} {left : ℕ} {es : List Event} {f : Fault} → f ≡ Steps → StopsFor p natives d s left es f → left ≡ 0
spent-left is (spent none due) = none
spent-left is (short some due) = absurd (cc is)
spent-left is (brings some x) = absurd (not-spent x is)

-- .. and what stops with none left does so for want of rules
spent-fault : {p : Loaded} {natives : NativeAnswers} {d : ℕ} {s : State} {left : ℕ} {es : List Event} {f : Fault} → left ≡ 0 → StopsFor p natives d s left es f → f ≡ Steps
spent-fault none (spent same due) = refl
spent-fault none (short some due) = absurd (omega (arith, none, some))
spent-fault none (brings some x) = absurd (omega (arith, none, some))

module _ {N : Type 0} (gives : N → NativeAnswers) (natives : N) {p : Loaded} {depth : ℕ} {w v : World} {e : Event} where
  -- what `take_event` did, as what `apply` does
  pub applied-taken : {went stopped : Bool} (r : Result Answer Fault) → Took p (gives natives) depth w e v r → went ≡ false → stopped ≡ is_err r → IfOk r (λ a. Completes gives (seen p natives depth w went) (e ∷ []) (a ∷ []) (seen p natives depth v stopped))
  applied-taken (Ok a) took goes is = record { went = goes; same = ap (λ (b : Bool). seen p natives depth v b) (is ∙ sym goes); runs = took.cases.0.runs; ends = took.cases.0.ends }
  applied-taken (Err f) took goes is = tt

  -- refused exactly where the event's conditions refuse it
  pub applied-refused : (went stopped : Bool) (r : Result Answer Fault) → IsSound p → IsSoundWorld p w → w.turn ≡ None → Took p (gives natives) depth w e v r → IfOk r (λ a. RefusesExactly (seen p natives depth w went) e a (seen p natives depth v stopped))
  applied-refused went stopped (Ok a) sound whole none took = record {
    must = λ k is. answer-refused k sound whole.is.agree (first-taken (record { empty = refl; no_turn = none }) took.cases.0.runs.run).1 is;
    may = λ n is. subst (λ (b : Answer). SaysWhy p w e v b) is took.cases.1;
  }
  applied-refused went stopped (Err f) sound whole none took = tt

  pub applied-stopped : {went stopped : Bool} (r : Result Answer Fault) → Took p (gives natives) depth w e v r → went ≡ false → stopped ≡ is_err r → IfErr r (λ f. Halts gives (seen p natives depth w went) (e ∷ []) f (seen p natives depth v stopped) ⊎ Stays (seen p natives depth w went) f (seen p natives depth v stopped))
  applied-stopped (Ok x) took goes is = tt
  applied-stopped (Err f) took goes is =
      inl (record { went = goes; same = ap (λ (b : Bool). seen p natives depth v b) is; stack = took.cases.stack; front = took.cases.front; cause = took.cases.cause })

  -- it stops for want of rules exactly where none is left
  pub applied-spent : {stopped : Bool} (r : Result Answer Fault) → Took p (gives natives) depth w e v r → stopped ≡ is_err r → (r ≡ Err Steps) ↔ ((stopped ≡ true) × (v.left ≡ 0))
  applied-spent (Ok a) took is = (λ same. absurd (cc same), λ both. let no : true ≡ false = sym both.0 ∙ is in absurd (cc no))
  applied-spent (Err f) took is = (
    λ same.
        let f_is : f ≡ Steps = cc same in
        (is, spent-left f_is took.cases.cause),
    λ both. ap (λ (g : Fault). Err g) (spent-fault both.1 took.cases.cause),
  )
