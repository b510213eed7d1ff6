use Rattle.rank_graph.specs.Solutions.{rank_of}
use Rattle.settling_make.proofs.Ranking.{ranked_all}
use Rattle.settling_make.proofs.ranks.ranks_of.Goals as goal

pub returns : goal.returns
returns c = ranked_all c.args.scan.now.nodes c.args.scan.now.rows c.args.found.now (rank_of c.args.heights.now) c.args.margins.now c.requires c.loop-component.component c.loop-component.ranks c.loop-component-test.false c.loop-component.invariant
