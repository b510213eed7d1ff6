use Rattle.std.proofs.Common.{List, subst, sym}
use Rattle.effect_scan.specs.declared.node.Node.{Node}
use Rattle.effect_scan.specs.Nodes.{IsAt}
use Rattle.program_commands.proofs.node_ways.number_of.Goals as goal

pub returns : goal.returns
returns c = subst (λ (ns : List Node). IsAt ns c.args.node c.in-Some.number) c.requires.scan.nodes c.in-Some.ensures.value

pub unreachable-requires : goal.unreachable-requires
unreachable-requires c = c.in-None.ensures.value c.requires.node.0 (subst (λ (ns : List Node). IsAt ns c.args.node c.requires.node.0) (sym c.requires.scan.nodes) c.requires.node.1)
