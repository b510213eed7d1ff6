use Rattle.std.proofs.Common.{take}
use Rattle.std.specs.declared.ops.ControlFlow.TheVariants.{Continue}
use Rattle.type_check.specs.code.Judging.{Judges}
use Rattle.type_check.proofs.bodies.+bodies.Given as goal

-- the statements so far are typed
abbrev pub invariant-body_flaw-loop-statement : goal.invariant-body_flaw-loop-statement
invariant-body_flaw-loop-statement l = Judges l.scope.meta.now l.scope.class l.scope.types.now (take l.statement-index l.body) l.start (Continue l.next)
