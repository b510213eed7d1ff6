use Rattle.std.proofs.Common.{◌≡◌, ◌-◌}
use Rattle.std.specs.List.{find}
use Rattle.machine_state.specs.Connections.{can_be_used}
use Rattle.machine_state.proofs.world.World.first_to_living.Given as goal

-- the connections that were passed over can't be used
abbrev pub invariant-loop-connection : goal.invariant-loop-connection
invariant-loop-connection l =
    find (can_be_used l.store.tree l.sender l.signal l.passed l.last) l.store.connections.connections
    ≡ find (can_be_used l.store.tree l.sender l.signal l.used l.last) l.store.connections.connections

abbrev pub decreases-loop-connection : goal.decreases-loop-connection
decreases-loop-connection l = l.last - l.passed
