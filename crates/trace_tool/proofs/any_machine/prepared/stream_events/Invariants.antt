use Rattle.std.proofs.Common.{take}
use Rattle.object_machine.specs.Checked.{IsChecked}
use Rattle.object_machine.specs.Seen.{AreKept}
use Rattle.trace_tool.proofs.Streaming.{StreamsSoFar}
use Rattle.trace_tool.proofs.any_machine.prepared.stream_events.Given as goal

-- the events so far were taken, and written out
abbrev pub invariant-loop-event : goal.invariant-loop-event
invariant-loop-event g l = record {
  streams : StreamsSoFar g.M.Natives.Answering.gives g.W.Write.contents (g.M.ObjectMachine.seen l.fn.machine) (take l.event-index l.events) (g.M.ObjectMachine.seen l.machine) l.fn.output l.output;
  checked : IsChecked g.M.Natives.Answering.gives (g.M.ObjectMachine.seen l.fn.machine) → IsChecked g.M.Natives.Answering.gives (g.M.ObjectMachine.seen l.machine);
  kept : AreKept g.M.Natives.Answering.takes g.M.Natives.Answering.gives (g.M.ObjectMachine.seen l.machine);
}
