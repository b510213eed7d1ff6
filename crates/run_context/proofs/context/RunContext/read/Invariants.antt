use Rattle.std.proofs.Common.{take}
use Rattle.machine_rules.specs.Natives.{AreRead}
use Rattle.run_context.proofs.context.RunContext.read.Given as goal

-- those that were passed are read
abbrev pub invariant-loop-property : goal.invariant-loop-property
invariant-loop-property l = AreRead l.world.store.tree l.object (take l.property-index l.properties) l.values.items
