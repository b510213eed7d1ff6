use Rattle.settling_make.proofs.Barred.{circle_bars, end_bars, long_bars}
use Rattle.settling_make.proofs.laws.none_is_valid.Goals as goal

pub returns : goal.returns
returns c = record {
  circles = circle_bars c.args.meta.now c.edges_join_nodes.ensures;
  ends = end_bars c.args.meta.now c.edges_join_nodes.ensures;
  long = long_bars c.args.meta.now c.edges_join_nodes.ensures;
}
