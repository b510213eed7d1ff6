use Rattle.machine_state.proofs.Due.{can-within}
use Rattle.machine_state.proofs.world.World.next_used.Goals as goal

pub returns-else-is_silent-clause-within : goal.returns-else-is_silent-clause-within
returns-else-is_silent-clause-within c = can-within c.args.self.now.store.tree c.args.self.now.store.connections.connections c.args.sender c.args.signal c.args.used c.args.last _ c.first_to_living.ensures
