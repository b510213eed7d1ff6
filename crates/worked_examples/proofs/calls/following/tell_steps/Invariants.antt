use Rattle.prop_bindings.specs.Fits.{Agree}
use Rattle.worked_examples.proofs.calls.following.tell_steps.Given as goal

-- the bindings are settled between the steps
abbrev pub invariant-loop-title : goal.invariant-loop-title
invariant-loop-title g l = Agree l.meta l.tree l.bindings.installed
