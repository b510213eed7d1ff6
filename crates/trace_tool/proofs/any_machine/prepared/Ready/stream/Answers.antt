use Rattle.std.proofs.Common.{rules}
use Rattle.command_lines.proofs.Sending.{sent, finished, finished_faults}
use Rattle.trace_tool.proofs.Preparing.{carried-run}
use Rattle.trace_tool.proofs.any_machine.prepared.Ready.stream.Goals as goal

pub returns : goal.returns
returns g c =
    let streamed = c.stream_events-streamed.ensures in
    let streams = rw c.as_slice.ensures at streamed.streams in
    carried-run streams streamed.limits
    (finished c.new-output.ensures.begun (sent streams.puts c.put.ensures) (rw c.status.ensures at c.finish-written.ensures) (search rules))
    (finished_faults c.new-output.ensures.begun (sent streams.puts c.put.ensures) c.finish-written.ensures c.failing.ensures)
