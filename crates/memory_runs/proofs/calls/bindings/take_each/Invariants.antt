use Rattle.prop_bindings.specs.Fits.{Agree}
use Rattle.memory_runs.proofs.calls.bindings.take_each.Given as goal

-- the bindings are settled between the steps
abbrev pub invariant-loop-step : goal.invariant-loop-step
invariant-loop-step l = Agree l.meta l.tree l.bindings.installed
