use Rattle.std.proofs.Common.{◌≡◌, List, refl, sym, ap, subst}
use Rattle.object_tree.specs.declared.object.Object.{Object}
use Rattle.object_tree.specs.Adopting.{IsAdopted, no_memory, MayBeGone, nobody, short}
use Rattle.object_tree.specs.declared.fault.AdoptFault.TheVariants.{NotOwned}
use Rattle.machine_state.specs.declared.world.World.{World}
use Rattle.qt_runtime.proofs.quiet.accepting.accept_adoption.Goals as goal

pub returns-in_default-clause-objects : goal.returns-in_default-clause-objects
returns-in_default-clause-objects c = λ u v x y lives living. (no_memory, refl)

pub returns-in-Ok-adopt-clause-objects : goal.returns-in-Ok-adopt-clause-objects
returns-in-Ok-adopt-clause-objects c = λ u v x y lives living.
    let is = c.in-Ok-adopt.ensures.value u v x y lives living in
    let After : List Object → Type 0 = λ l. IsAdopted c.args.parent c.args.child y c.args.world.now.store.tree l in
    (is.0, subst After (sym (ap (λ (w : World). w.store.tree) c.count_event.ensures)) is.1)

-- ---- where one of the two is gone

pub returns-in_default-clause-no_parent : goal.returns-in_default-clause-no_parent
returns-in_default-clause-no_parent c = λ gone. short

pub returns-in_default-clause-no_child : goal.returns-in_default-clause-no_child
returns-in_default-clause-no_child c = λ gone. short

pub returns-in-Err-clause-no_parent : goal.returns-in-Err-clause-no_parent
returns-in-Err-clause-no_parent c = λ gone.
    let refused = c.in-Err.ensures.no_parent gone in
    let is : c.in-Err.fault ≡ NotOwned = cc refused in
    subst MayBeGone (sym is) nobody

pub returns-in-Err-clause-no_child : goal.returns-in-Err-clause-no_child
returns-in-Err-clause-no_child c = λ gone.
    let refused = c.in-Err.ensures.no_child gone in
    let is : c.in-Err.fault ≡ NotOwned = cc refused in
    subst MayBeGone (sym is) nobody
