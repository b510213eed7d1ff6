use Rattle.std.proofs.Common.{[], sym, subst}
use Rattle.binding_graph.specs.code.BindingRanks.{AreRanked}
use Rattle.binding_graph.proofs.Compacting.{Entries, number_in}
use Rattle.binding_graph.proofs.ranks.BindingRanks.reserve.Goals as goal

pub returns-in-None-clause-kept : goal.returns-in-None-clause-kept
returns-in-None-clause-kept c = λ F all. c.compact.ensures.kept F (subst (λ (es : Entries). AreRanked F [] (number_in es) c.args.self.now.next) (sym c.in_ok-reserve.ensures.entries) all)
