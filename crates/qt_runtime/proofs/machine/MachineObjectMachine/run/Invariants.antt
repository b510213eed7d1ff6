use Rattle.std.proofs.Common.{List, take}
use Rattle.trace_entries.specs.declared.fault.Answer.{Answer}
use Rattle.object_machine.specs.Checked.{IsChecked}
use Rattle.object_machine.specs.Seen.{AreKept, Completes}
use Rattle.qt_runtime.proofs.machine.MachineObjectMachine.run.Given as goal

-- the events so far were taken
abbrev pub invariant-loop-event : goal.invariant-loop-event
invariant-loop-event g l = record {
  taken : (answers : List Answer) × Completes g.N.Answering.gives l.fn.self (take l.event-index l.events) answers l.self;
  checked : IsChecked g.N.Answering.gives l.fn.self → IsChecked g.N.Answering.gives l.self;
  kept : AreKept g.N.Answering.takes g.N.Answering.gives l.self;
}
