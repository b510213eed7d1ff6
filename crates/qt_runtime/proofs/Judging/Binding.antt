-- `bind`.
use Rattle.std.proofs.Common.{◌≡◌, ℕ, List, [], ◌∷◌, length, Some, Result, Ok, Err, MatchResult, refl, sym, ◌∙◌, subst, slice_get}
use Rattle.meta_model.specs.{declared.site.MetaSite.{MetaSite}, Loaded.{Loaded}}
use Rattle.binding_graph.specs.declared.binding.Binding.{Binding}
use Rattle.prop_bindings.specs.{declared.plans.fault.BindFault.{BindFault}, Fits.{InOneLoop}, Calls.{CoversBinding, IsNotBound, MayBind, binding_of, new_binding, bad_source, other_loop, bad_type, closes, no_memory}}
use Rattle.script_lang.specs.{declared.event.Event.{Event}, declared.event.Event.TheVariants.{Bind}}
use Rattle.trace_entries.specs.{declared.fault.Fault.{Fault}, declared.refusal.Refusal.{Refusal}, declared.refusal.Refusal.TheVariants.{BadSource, OtherLoop}}
use Rattle.machine_state.specs.{declared.world.World.{World}, Accepting.{accepted}, State.{State}, Worlds.{at}}
use Rattle.machine_rules.specs.{Natives.{NativeAnswers}, Judgement.{numbered, Check, Gives, ◌>>=◌, found, holds, fails, gives, becomes, goes_on, ends}, Settling.{Installs}}
use Rattle.object_machine.{specs.Causes.{BindsNext, Halts, StopsFor, short, brings, binds_ill, binds_loop}, specs.Runs.{is_next}, specs.code.Accepted.{AsksToBind}, specs.code.Judgement.{IsSiteOf}, specs.Events.{judged, may_bind}, proofs.Judging.Naming.{living-ok}}
use Rattle.qt_runtime.{specs.code.Taking.{binding_reason}, proofs.Taken.{idle, no_natives, none-yet, Ready}}

module _ {p : Loaded} {w : World} {name target : List ℕ} {sources : List (List ℕ)} {number o : ℕ} {objects : List ℕ}
    (asks : AsksToBind p w name target sources number o objects) where
  abbrev event : Event
  event = Bind name target sources

  -- the site of this number has this name
  site-is : (site : MetaSite) → slice_get p.sites number ≡ Some site → IsSiteOf p name (numbered number site) × (length sources ≡ length site.formals)
  site-is site is =
      let Family : MetaSite → Type 0 = λ x. IsSiteOf p name (numbered number x) × (length sources ≡ length x.formals) in
      let both : Some asks.site ≡ Some site = sym asks.is.0 ∙ is in
      let same : asks.site ≡ site = cc both in
      subst Family same (asks.is, asks.many)

  -- what is left to be judged
  abbrev judged-last : MetaSite → Result Binding Refusal → Type 0
  judged-last site =
      Check BadSource (CoversBinding p w.store.tree site o objects) >>= λ _.
      Check OtherLoop (InOneLoop w.store.tree o objects) >>= λ _.
      Gives (binding_of site number o objects)

  on-found : {r : Result Binding Refusal} (site : MetaSite) → slice_get p.sites number ≡ Some site → judged-last site r → may_bind p (at w []) name target sources r
  on-found site is rest =
      let it = site-is site is in
      goes_on (numbered number site) (found it.0) (goes_on tt (holds it.1) (goes_on (numbered o asks.life) (living-ok (numbered o asks.life) asks.lives) (goes_on objects asks.live rest)))

  pub may-ok : (may : MayBind p w.store.tree number o objects) → may_bind p (at w []) name target sources (Ok (new_binding may))
  may-ok may = on-found may.sited.site may.sited.is (goes_on tt (holds may.sited.covers) (goes_on tt (holds may.one_loop) gives))

  -- the binding is the next to be installed
  next-bind : {b : Binding} → Ready w → may_bind p (at w []) name target sources (Ok b) → BindsNext p (at w []) (event ∷ []) b
  next-bind some may = record { idle = idle w some.no_turn; site = name; target = target; sources = sources; rest = []; is_next = refl; may = may }

  pub judged-bound : (t : State) (may : MayBind p w.store.tree number o objects) → Installs p (accepted (at w [])) [] (new_binding may) t → judged p (at w []) event (Ok t)
  judged-bound t may installs = goes_on (new_binding may) (may-ok may) (becomes installs)

  -- nothing has changed
  halted-before : {natives : NativeAnswers} {d : ℕ} {f : Fault} → StopsFor p natives d (at w []) w.left (event ∷ []) f → Halts p natives d w (event ∷ []) f w
  halted-before cause = record { stack = []; front = record { taken = []; rest = event ∷ []; split = refl; answers = []; runs = none-yet }; cause = cause }

  -- why no binding is installed
  pub not-bound : (natives : NativeAnswers) (d : ℕ) {f : BindFault} → Ready w → IsNotBound p w.store.tree w.store.bindings number o objects f →
      MatchResult (binding_reason f) (λ k. judged p (at w []) event (Err k)) (λ g. Halts p natives d w (event ∷ []) g w)
  not-bound natives d some (bad_source none) =
      let judges : may_bind p (at w []) name target sources (Err BadSource) = on-found asks.site asks.is.0 (ends (fails (λ covers. none (record { site = asks.site; is = asks.is.0; covers = covers })))) in
      ends judges
  not-bound natives d some (other_loop sited apart) = ends (on-found sited.site sited.is (goes_on tt (holds sited.covers) (ends (fails apart))))
  not-bound natives d some (bad_type may ill) = halted-before (brings some.some (binds_ill (record { binding = new_binding may; next = next-bind some (may-ok may); ill = ill })))
  not-bound natives d some (closes may fit loop) = halted-before (brings some.some (binds_loop (record { binding = new_binding may; next = next-bind some (may-ok may); fit = fit; closes = loop })))
  not-bound natives d some no_memory = halted-before (short some.some (is_next (idle w some.no_turn)))

  pub binding-stops : {natives : NativeAnswers} (d : ℕ) {f : BindFault} {g : Fault} → Ready w → IsNotBound p w.store.tree w.store.bindings number o objects f → Err g ≡ binding_reason f → Halts p natives d w (event ∷ []) g w
  binding-stops {natives = natives} d some is e =
      let Decides : Result Refusal Fault → Type 0 = λ r. MatchResult r (λ k. judged p (at w []) event (Err k)) (λ h. Halts p natives d w (event ∷ []) h w) in
      subst Decides (sym e) (not-bound natives d some is)

  pub binding-refuses : {f : BindFault} {k : Refusal} → Ready w → IsNotBound p w.store.tree w.store.bindings number o objects f → Ok k ≡ binding_reason f → judged p (at w []) event (Err k)
  binding-refuses some is e =
      let Decides : Result Refusal Fault → Type 0 = λ r. MatchResult r (λ k. judged p (at w []) event (Err k)) (λ h. Halts p no_natives 0 w (event ∷ []) h w) in
      subst Decides (sym e) (not-bound no_natives 0 some is)
