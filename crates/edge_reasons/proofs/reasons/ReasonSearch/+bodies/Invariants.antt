use Rattle.std.proofs.Common.{take}
use Rattle.std.specs.declared.ops.ControlFlow.TheVariants.{Continue}
use Rattle.edge_reasons.specs.code.Seeks.{Seeks}
use Rattle.edge_reasons.proofs.reasons.ReasonSearch.+bodies.Given as goal

abbrev pub invariant-first_among-loop-statement : goal.invariant-first_among-loop-statement
invariant-first_among-loop-statement l = Seeks l.self.meta.now l.self.class l.self.types.now (take l.statement-index l.body) l.self.to l.start (Continue l.next)
