-- `adopt`.
use Rattle.std.proofs.Common.{◌≡◌, ℕ, List, [], Result, Ok, Err, MatchResult, sym, subst}
use Rattle.meta_model.specs.Loaded.{Loaded}
use Rattle.object_tree.specs.declared.fault.AdoptFault.{AdoptFault}
use Rattle.object_tree.specs.declared.life.Life.{Life}
use Rattle.object_tree.specs.declared.object.Object.{Object}
use Rattle.object_tree.specs.Adopting.{IsAdopted, IsNotAdopted, MayAdopt, not_owned, cycle, other_loop, no_memory}
use Rattle.script_lang.specs.declared.event.Event.TheVariants.{Adopt}
use Rattle.trace_entries.specs.declared.fault.Fault.{Fault}
use Rattle.trace_entries.specs.declared.refusal.Refusal.{Refusal}
use Rattle.machine_state.specs.declared.world.World.{World}
use Rattle.machine_state.specs.Accepting.{accepted}
use Rattle.machine_state.specs.Worlds.{at}
use Rattle.machine_rules.specs.Judgement.{Numbered, holds, fails, gives, becomes, goes_on, ends}
use Rattle.object_machine.specs.code.Judgement.{IsNotAccepted, IsLiving}
use Rattle.object_machine.specs.declared.not_accepted.NotAccepted.{NotAccepted}
use Rattle.qt_runtime.specs.code.Quiet.{adoption_reason, Stops, short}
use Rattle.object_machine.specs.Events.{judged, living}
use Rattle.object_machine.proofs.Judged.{then-ends, then-on}
use Rattle.object_machine.proofs.Judging.Naming.{living-ok}

-- the parent's name isn't accepted
pub no-parent : (p : Loaded) (w : World) (parent child : List ℕ) {n : NotAccepted} → IsNotAccepted (living w.store.tree parent) n → IsNotAccepted (judged p (at w []) (Adopt parent child)) n
no-parent p w parent child x = then-ends x

module _ (p : Loaded) (w : World) (parent child : List ℕ) (a : Numbered Life) (above : IsLiving w.store.tree parent a) where
  -- .. nor the child's
  pub no-child : {n : NotAccepted} → IsNotAccepted (living w.store.tree child) n → IsNotAccepted (judged p (at w []) (Adopt parent child)) n
  no-child x = then-on a (living-ok a above) (then-ends x)

  module _ (c : Numbered Life) (below : IsLiving w.store.tree child c) where
    pub adopts : {new : List Object} → MayAdopt p w.store.tree a.number c.number a.it c.it → IsAdopted a.number c.number c.it w.store.tree new → judged p (at w []) (Adopt parent child) (Ok (record (accepted (at w [])) { objects = new }))
    adopts {new} may is =
        goes_on a (living-ok a above) (goes_on c (living-ok c below)
        (goes_on tt (holds may.owns) (goes_on tt (holds may.no_cycle) (goes_on tt (holds may.one_loop) (goes_on new (becomes is) gives)))))

    -- the object isn't adopted
    pub not-adopted : {f : AdoptFault} → IsNotAdopted p w.store.tree a.number c.number a.it c.it f → MatchResult (adoption_reason f) (λ k. judged p (at w []) (Adopt parent child) (Err k)) (λ g. Stops p w (Adopt parent child) g)
    not-adopted (not_owned none) = goes_on a (living-ok a above) (goes_on c (living-ok c below) (ends (fails none)))
    not-adopted (cycle owns over) =
        goes_on a (living-ok a above) (goes_on c (living-ok c below) (goes_on tt (holds owns) (ends (fails (λ free. free over)))))
    not-adopted (other_loop owns free apart) =
        goes_on a (living-ok a above) (goes_on c (living-ok c below) (goes_on tt (holds owns) (goes_on tt (holds free) (ends (fails apart)))))
    not-adopted no_memory = short

    pub adoption-stops : {f : AdoptFault} {g : Fault} → IsNotAdopted p w.store.tree a.number c.number a.it c.it f → Err g ≡ adoption_reason f → Stops p w (Adopt parent child) g
    adoption-stops is e =
        let Decides : Result Refusal Fault → Type 0 = λ r. MatchResult r (λ k. judged p (at w []) (Adopt parent child) (Err k)) (λ h. Stops p w (Adopt parent child) h) in
        subst Decides (sym e) (not-adopted is)

    pub adoption-refuses : {f : AdoptFault} {k : Refusal} → IsNotAdopted p w.store.tree a.number c.number a.it c.it f → Ok k ≡ adoption_reason f → judged p (at w []) (Adopt parent child) (Err k)
    adoption-refuses is e =
        let Decides : Result Refusal Fault → Type 0 = λ r. MatchResult r (λ k. judged p (at w []) (Adopt parent child) (Err k)) (λ h. Stops p w (Adopt parent child) h) in
        subst Decides (sym e) (not-adopted is)
