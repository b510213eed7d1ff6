-- `later`.
use Rattle.std.proofs.Common.{None, ◌≡◌, ℕ, true, false, List, [], ◌∷◌, Ok, refl, sym, ap, subst, Option}
use Rattle.meta_model.specs.Loaded.{Loaded}
use Rattle.delete_later.specs.{declared.store.Store.{Store}, Scheduling.{deferred_to, scheduled_in, scheduled_with}}
use Rattle.event_loops.specs.Queues.{HasName}
use Rattle.object_tree.specs.{declared.life.Life.{Life}, Objects.{scheduled}}
use Rattle.prop_bindings.{specs.Fits.{Agree}, proofs.Agreeing.{scheduled_agree}}
use Rattle.script_lang.specs.declared.event.Event.TheVariants.{Later}
use Rattle.trace_entries.specs.{declared.entry.Entry.{Entry}, declared.entry.Entry.TheVariants.{At}, declared.entry.EntryKind.TheVariants.{Scheduled}}
use Rattle.trace_entries.specs.declared.fault.Answer.TheVariants as answer
use Rattle.machine_state.{specs.declared.world.World.{World}, specs.Accepting.{accepted, with_entries}, specs.State.{State}, specs.Worlds.{at, store_of, with_store}, specs.code.Changing.{with_scheduled, accepting, accepting_schedule}, proofs.Deferring.{scheduled-now}}
use Rattle.machine_rules.{specs.Destroying.{scheduled_now}, specs.Judgement.{Numbered, becomes, gives, goes_on}, proofs.Scheduling.{schedules-before}}
use Rattle.object_machine.{specs.declared.not_accepted.NotAccepted.{NotAccepted}, specs.code.Judgement.{IsNotAccepted, IsLiving}, specs.Events.{judged, living}, proofs.Judged.{then-ends}, proofs.Judging.Naming.{living-ok}}
use Rattle.qt_runtime.{specs.code.Quiet.{TookQuietly}, proofs.QuietWorlds.{quietly-done}}

module _ (p : Loaded) (w : World) (name : List ℕ) where
  -- the name isn't accepted
  pub not-later : {n : NotAccepted} → IsNotAccepted (living w.store.tree name) n → IsNotAccepted (judged p (at w []) (Later name)) n
  not-later x = then-ends x

  module _ (o : Numbered Life) (lives : IsLiving w.store.tree name o) where
    -- the object is scheduled already
    again : o.it.scheduled ≡ true → judged p (at w []) (Later name) (Ok (accepted (at w [])))
    again marked = goes_on o (living-ok o lives) (becomes (schedules-before marked))

    pub later-again : {v : World} → o.it.scheduled ≡ true → Agree p w.store.tree w.store.bindings → w.turn ≡ None → v ≡ accepting w → TookQuietly p w (Later name) v (Ok answer.Done)
    later-again marked agree none v_is = quietly-done (accepted (at w [])) (Later name) (again marked) refl agree none v_is

    -- .. or it is scheduled now
    module _ (loop : List ℕ) (is_loop : HasName w.store.loops.loops loop o.it.home) (unmarked : o.it.scheduled ≡ false) where
      abbrev entry : Entry
      entry = At 0 (Scheduled loop name)

      abbrev noted : State
      noted = with_entries (accepted (at w [])) (entry ∷ [])

      now : scheduled_in o.number (store_of noted) ≡ deferred_to o.it.home o.number (store_of noted)
      now = scheduled-now o.number (store_of noted) o.it lives.lives unmarked

      once : judged p (at w []) (Later name) (Ok (with_scheduled noted o.number))
      once =
          let state_of : Option Life → State = λ life. with_store noted (scheduled_with life o.number (store_of noted)) in
          goes_on o (living-ok o lives) (becomes (record { lines = entry ∷ []; told = scheduled_now unmarked is_loop lives.named.named; gives = ap state_of lives.lives }))

      pub later-once : {v : World} → Agree p w.store.tree w.store.bindings → w.turn ≡ None → v ≡ accepting_schedule w (At 0 (Scheduled loop name) ∷ []) o.number → TookQuietly p w (Later name) v (Ok answer.Done)
      later-once agree none v_is =
          let Agrees : Store → Type 0 = λ store. Agree p store.tree store.bindings in
          let agree_after : Agrees (scheduled_in o.number (store_of noted)) = subst Agrees (sym now) (scheduled_agree p w.store.bindings w.store.tree o.number agree) in
          quietly-done (with_scheduled noted o.number) (Later name) once refl agree_after none v_is
