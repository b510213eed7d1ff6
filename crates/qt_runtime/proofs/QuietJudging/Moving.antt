-- `move`.
use Rattle.std.{proofs.Common.{◌≡◌, ◌≢◌, ℕ, true, false, List, [], Option, Some, Result, Ok, Err, MatchResult, sym, ap, ◌∙◌, subst, arith}, specs.Prelude.{IsSome}, specs.Option.{option_map, option_and_then}, proofs.lemmas.Bool.{false≢true}, proofs.lemmas.Option.{same_Some}}
use Rattle.meta_model.specs.Loaded.{Loaded}
use Rattle.object_tree.specs.{declared.life.Life.{Life}, Family.{parent_of}, Objects.{home_of}}
use Rattle.event_loops.specs.Queues.{IsTaken, IsNamed as IsLoop}
use Rattle.delete_later.{specs.declared.fault.MoveFault.{MoveFault}, specs.declared.store.Store.{Store}, specs.Moving.{IsMoved, IsNotMoved, IsBoundOut, no_loop, has_parent, bound, no_memory}, proofs.Moving.{below-alike, lead_out-alike}}
use Rattle.script_lang.specs.declared.event.Event.TheVariants.{Move}
use Rattle.trace_entries.specs.{declared.fault.Fault.{Fault}, declared.refusal.Refusal.{Refusal}, declared.refusal.Refusal.TheVariants.{NoLoop}}
use Rattle.machine_state.specs.{declared.world.World.{World}, Accepting.{accepted}, Worlds.{at, with_store}}
use Rattle.machine_rules.specs.Judgement.{Numbered, found, missing, holds, fails, gives, becomes, goes_on, ends}
use Rattle.object_machine.{specs.code.Judgement.{IsNotAccepted, IsLiving}, specs.declared.not_accepted.NotAccepted.{NotAccepted}, specs.Events.{judged, living}, proofs.Homes.{named-within}, proofs.Judged.{then-ends}, proofs.Judging.Naming.{living-ok}}
use Rattle.qt_runtime.specs.code.Quiet.{moving_reason, Stops, short}

-- the name isn't accepted
pub not-mover : (p : Loaded) (w : World) (name loop : List ℕ) {n : NotAccepted} → IsNotAccepted (living w.store.tree name) n → IsNotAccepted (judged p (at w []) (Move name loop)) n
not-mover p w name loop x = then-ends x

module _ (p : Loaded) (w : World) (name loop : List ℕ) (o : Numbered Life) (is : IsLiving w.store.tree name o) where
  home-is : home_of w.store.tree o.number ≡ Some o.it.home
  home-is = ap (option_map (λ (l : Life). l.home)) is.lives

  parent-is : parent_of w.store.tree o.number ≡ o.it.parent
  parent-is = ap (λ (there : Option Life). option_and_then (λ (l : Life). l.parent) there) is.lives

  -- .. nor the loop's
  pub no-such-loop : (¬ IsTaken w.store.loops.loops loop) → judged p (at w []) (Move name loop) (Err NoLoop)
  no-such-loop none = goes_on o (living-ok o is) (ends (missing (λ home named. none (home, named.has))))

  module _ (home : ℕ) (named : IsLoop w.store.loops.loops loop home) where
    elsewhere : o.it.home ≢ home → home_of w.store.tree o.number ≢ Some home
    elsewhere other at_home = other (same_Some _ _ (sym home-is ∙ at_home))

    not-parted : {new : Store} → IsMoved o.number home w.store new → ¬ ((o.it.home ≢ home) × IsBoundOut o.number w.store)
    not-parted moved part =
        let moves = moved.other (elsewhere part.0) in
        let alike = below-alike w.store.tree o.number moves.objects part.1.objects moves.below part.1.below in
        false≢true (sym moves.alone ∙ lead_out-alike moves.objects part.1.objects alike w.store.bindings ∙ part.1.out)

    pub moves-so : {new : Store} → IsMoved o.number home w.store new → judged p (at w []) (Move name loop) (Ok (with_store (accepted (at w [])) new))
    moves-so {new} moved =
        goes_on o (living-ok o is) (goes_on home (found named)
        (goes_on tt (holds (sym parent-is ∙ moved.root)) (goes_on tt (holds (not-parted moved)) (goes_on new (becomes moved) gives))))

    -- the object doesn't move
    pub not-moved : {f : MoveFault} → IsNotMoved o.number home w.store f → MatchResult (moving_reason f) (λ k. judged p (at w []) (Move name loop) (Err k)) (λ g. Stops p w (Move name loop) g)
    not-moved (no_loop past) = let within = named-within w.store.loops.loops loop home named.has in absurd (omega (arith, past, within))
    not-moved (has_parent there parent) =
        let HasOne : Option ℕ → Type 0 = λ up. IsSome up in
        goes_on o (living-ok o is) (goes_on home (found named) (ends (fails (λ none. false≢true (subst HasOne (parent-is ∙ none) parent)))))
    not-moved (bound there root other out) =
        let differs : o.it.home ≢ home = λ same. other (home-is ∙ ap Some same) in
        goes_on o (living-ok o is) (goes_on home (found named) (goes_on tt (holds (sym parent-is ∙ root)) (ends (fails (λ none. none (differs, out))))))
    not-moved no_memory = short

    pub moving-stops : {f : MoveFault} {g : Fault} → IsNotMoved o.number home w.store f → Err g ≡ moving_reason f → Stops p w (Move name loop) g
    moving-stops not e =
        let Decides : Result Refusal Fault → Type 0 = λ r. MatchResult r (λ k. judged p (at w []) (Move name loop) (Err k)) (λ h. Stops p w (Move name loop) h) in
        subst Decides (sym e) (not-moved not)

    pub moving-refuses : {f : MoveFault} {k : Refusal} → IsNotMoved o.number home w.store f → Ok k ≡ moving_reason f → judged p (at w []) (Move name loop) (Err k)
    moving-refuses not e =
        let Decides : Result Refusal Fault → Type 0 = λ r. MatchResult r (λ k. judged p (at w []) (Move name loop) (Err k)) (λ h. Stops p w (Move name loop) h) in
        subst Decides (sym e) (not-moved not)
