use Rattle.trace_tool.proofs.any_machine.prepared.Ready.run.Goals as goal

pub returns : goal.returns
returns g c = record {
  ran = rw c.as_slice.ensures at c.run-ended.ensures.ran;
  limits = λ checked. (c.run-ended.ensures.checked checked).1;
}
