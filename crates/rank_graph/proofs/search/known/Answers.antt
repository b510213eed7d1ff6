use Rattle.std.proofs.Common.{sym, ◌∙◌}
use Rattle.rank_graph.specs.Searching.{state_of}
use Rattle.rank_graph.proofs.search.known.Goals as goal

pub returns-in-Done : goal.returns-in-Done
unfolding state_of
returns-in-Done c = record {
  twin = c.in_ok-twin.field-0.now;
  is = sym c.in_ok-twin.ensures;
  done = sym c.get.ensures ∙ c.in-Done.is;
  within = c.adds_nothing.ensures c.if-not-adds_nothing.false;
}
