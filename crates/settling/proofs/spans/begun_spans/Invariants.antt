use Rattle.std.proofs.Common.{take}
use Rattle.settling.specs.code.Spans.{AreBegun}
use Rattle.settling.proofs.spans.begun_spans.Given as goal

abbrev pub invariant-loop-set : goal.invariant-loop-set
invariant-loop-set l = AreBegun (take l.set-index l.sets) l.spans
