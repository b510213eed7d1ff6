use Rattle.effect_scan.proofs.Standing.{join_nodes}
use Rattle.effect_scan.proofs.laws.edges_join_nodes.Goals as goal

pub returns : goal.returns
returns c = join_nodes c.classes-classes.ensures.sound
