use Rattle.std.proofs.Common.{Ok, take}
use Rattle.object_machine.specs.Events.{all_living}
use Rattle.object_machine.proofs.named.find_all_living.Given as goal

-- the objects of the names so far
abbrev pub invariant-loop-name : goal.invariant-loop-name
invariant-loop-name l = all_living l.world.store.tree (take l.name-index l.names) (Ok l.objects)
