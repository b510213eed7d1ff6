use Rattle.object_machine.specs.Seen.{AreKept}
use Rattle.memory_runs.proofs.machines.apply_each.Given as goal

-- the natives are kept
abbrev pub invariant-loop-event : goal.invariant-loop-event
invariant-loop-event g l = AreKept g.N.Answering.takes g.N.Answering.gives l.machine
