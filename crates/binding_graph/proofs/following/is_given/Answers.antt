use Rattle.std.proofs.Common.{◌∙◌, ℕ, ap}
use Rattle.std.specs.Option.{is_some}
use Rattle.indexmap.specs.IndexMap.{get}
use Rattle.binding_graph.specs.code.Keys.{same_key}
use Rattle.binding_graph.proofs.following.is_given.Goals as goal

pub returns-else-from-le-FEW : goal.returns-else-from-le-FEW
returns-else-from-le-FEW c = c.contains_key.ensures ∙ ap (λ (k : ℕ × ℕ). is_some (get same_key c.args.given.now k)) c.key.ensures ∙ c.requires c.args.place.now
