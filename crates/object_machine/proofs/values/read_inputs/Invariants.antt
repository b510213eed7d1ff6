use Rattle.std.proofs.Common.{Ok, take}
use Rattle.object_machine.specs.Events.{values}
use Rattle.object_machine.proofs.values.read_inputs.Given as goal

-- the values of the inputs so far
abbrev pub invariant-loop-input : goal.invariant-loop-input
invariant-loop-input l = values l.world.store.tree (take l.input-index l.inputs) (Ok l.values)
