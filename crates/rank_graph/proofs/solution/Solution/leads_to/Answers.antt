use Rattle.std.proofs.Common.{◌∙◌, ap, ◌%◌, Option}
use Rattle.rank_graph.specs.declared.path.NodeRank.{NodeRank}
use Rattle.rank_graph.specs.Entries.{leads_in}
use Rattle.rank_graph.specs.Solutions.{leads_of}
use Rattle.rank_graph.proofs.solution.Solution.leads_to.Goals as goal

pub returns-in-Some : goal.returns-in-Some
unfolding leads_of
returns-in-Some c = c.contains.ensures ∙ ap (λ (o : Option NodeRank). leads_in o (c.args.class % 128)) c.in-Some.ensures

pub returns-in-None : goal.returns-in-None
unfolding leads_of
returns-in-None c = ap (λ (o : Option NodeRank). leads_in o (c.args.class % 128)) c.in-None.ensures
