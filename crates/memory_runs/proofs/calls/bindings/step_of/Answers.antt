use Rattle.std.proofs.Common.{List, ap, subst, sym}
use Rattle.object_tree.specs.declared.object.Object.{Object}
use Rattle.object_tree.specs.Typed.{AreTyped}
use Rattle.binding_graph.specs.declared.binding.Binding.{Binding}
use Rattle.prop_bindings.specs.Counts.{Kept}
use Rattle.prop_bindings.specs.Fits.{Agree}
use Rattle.prop_bindings.proofs.Agreeing.{unbound_agree}
use Rattle.memory_runs.proofs.calls.bindings.step_of.Goals as goal

-- nothing is there yet
pub put_each-requires : goal.put_each-requires
put_each-requires c =
    let Typed : List Object → Type 0 = AreTyped c.in_ok-meta.meta in
    subst Typed (sym c.new-tree.ensures) (λ o x l is. absurd (cc is.is))

-- nothing is bound yet
pub last_step-requires : goal.last_step-requires
last_step-requires c =
    let Agrees : List Binding → Type 0 = Agree c.in_ok-meta.meta c.put_each.new.tree in
    subst Agrees (sym (ap (λ (k : Kept). k.installed) c.new-bindings.ensures)) (unbound_agree c.in_ok-meta.meta c.put_each.new.tree c.put_each.ensures)
