use Rattle.trace_tool.proofs.Preparing.{carried-failed, carried-of, carried-writes}
use Rattle.trace_tool.proofs.runs.run_unchecked.Goals as goal

pub carry_out-requires : goal.carry_out-requires
carry_out-requires g c = c.prepare_unchecked_run-prepared.ensures.may

pub returns-clause-written : goal.returns-clause-written
returns-clause-written g c = carried-writes (carried-of (rw c.standard.ensures at c.prepare_unchecked_run-prepared.ensures) c.carry_out.ensures) c.sent.ensures.status

pub returns-clause-failed : goal.returns-clause-failed
returns-clause-failed g c = carried-failed c.carry_out.ensures c.sent.ensures.status c.sent.ensures.writing
