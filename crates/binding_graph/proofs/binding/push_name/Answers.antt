use Rattle.binding_graph.proofs.Naming.{named-past}
use Rattle.binding_graph.proofs.binding.push_name.Goals as goal

pub returns-in-None : goal.returns-in-None
returns-in-None c = named-past c.args.sources.now c.args.named c.args.reads.now.items c.in-None.ensures.lookup.3
