use Rattle.std.proofs.Common.{is_some, rules}
use Rattle.std.proofs.lemmas.Fn.{filter_same}
use Rattle.binding_graph.proofs.installed.keep_filled.Goals as goal

pub returns : goal.returns
returns c = filter_same _ is_some _ (λ x b f' k. search rules) _ _ c.retain.ensures.filtered
