use Rattle.rank_graph.proofs.Sharing.{all_left, done_map}
use Rattle.rank_graph.proofs.states.States.found.Goals as goal

pub numbers_of-requires : goal.numbers_of-requires
numbers_of-requires c = all_left _ _ _ _ c.self.view_is c.as_slice.ensures c.requires

pub returns : goal.returns
returns c = done_map _ _ _ _ _ c.self.view_is c.as_slice.ensures c.in_ok-numbers.ensures
