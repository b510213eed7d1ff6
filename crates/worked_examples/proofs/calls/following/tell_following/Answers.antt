use Rattle.std.proofs.Common.{List, ap, subst, sym}
use Rattle.binding_graph.specs.declared.binding.Binding.{Binding}
use Rattle.prop_bindings.specs.Counts.{Kept}
use Rattle.prop_bindings.specs.Fits.{Agree}
use Rattle.prop_bindings.proofs.Agreeing.{unbound_agree}
use Rattle.worked_examples.proofs.calls.following.tell_following.Goals as goal

-- nothing is bound yet
pub tell_steps-requires : goal.tell_steps-requires
tell_steps-requires g c =
    let Agrees : List Binding → Type 0 = Agree c.in_ok-meta.meta c.in_ok-tree.tree in
    subst Agrees (sym (ap (λ (k : Kept). k.installed) c.new-bindings.ensures)) (unbound_agree c.in_ok-meta.meta c.in_ok-tree.tree c.in_ok-tree.ensures)
