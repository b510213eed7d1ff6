use Rattle.binding_graph.proofs.Held.{one-held}
use Rattle.binding_graph.proofs.lists.Places.one.Goals as goal

pub returns : goal.returns
returns c = λ k. one-held c.args.key k
