use Rattle.connections.proofs.Counts.{Marked-swept}
use Rattle.connections.proofs.sweeping.sweep.Goals as goal

pub returns-clause-marked : goal.returns-clause-marked
returns-clause-marked c =
    Marked-swept c.args.cells.now c.sweep_keys.new.cells c.args.marked.now c.clear.new.self c.requires c.sweep_keys.ensures.cells c.sweep_keys.ensures.len c.clear.ensures.len c.clear.ensures.capacity
