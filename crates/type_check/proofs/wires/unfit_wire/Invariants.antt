use Rattle.type_check.specs.Wires.{IsFitWire}
use Rattle.type_check.proofs.Firsts.{HaveBefore}
use Rattle.type_check.proofs.wires.unfit_wire.Given as goal

-- the earlier wires fit
abbrev pub invariant-loop-place : goal.invariant-loop-place
invariant-loop-place l = HaveBefore (IsFitWire l.meta) l.wire-items l.place
