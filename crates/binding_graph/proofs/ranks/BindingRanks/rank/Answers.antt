use Rattle.std.proofs.Common.{◌∙◌, ap}
use Rattle.indexmap.specs.IndexMap.{get}
use Rattle.binding_graph.specs.code.Keys.{same_key}
use Rattle.binding_graph.proofs.ranks.BindingRanks.rank.Goals as goal

pub returns-in-Some : goal.returns-in-Some
returns-in-Some c = c.in-Some.ensures.value ∙ ap (get same_key c.args.self.now.by_place) c.key.ensures

pub returns-in-None : goal.returns-in-None
returns-in-None c = c.in-None.ensures.value ∙ ap (get same_key c.args.self.now.by_place) c.key.ensures
