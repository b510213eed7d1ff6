use Rattle.settling_make.proofs.Flat.{flat_of}
use Rattle.settling_make.proofs.Least.{least_of}
use Rattle.settling_make.proofs.making.make.Goals as goal

pub returns : goal.returns
returns c = record {
  makes = c.make_judged.ensures;
  flat = flat_of c.args.meta.now c.edges_join_nodes.ensures c.each_has_alike.ensures c.make_judged.result c.make_judged.ensures;
  least = least_of c.args.meta.now c.classes-classes.ensures.sound c.edges_join_nodes.ensures c.make_judged.result c.make_judged.ensures;
}
