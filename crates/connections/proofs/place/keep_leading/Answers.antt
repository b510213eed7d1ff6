use Rattle.std.proofs.Common.{rules}
use Rattle.std.proofs.lemmas.Fn.{filter_same}
use Rattle.connections.specs.code.CellPlaces.{leads}
use Rattle.connections.proofs.place.keep_leading.Goals as goal

pub returns : goal.returns
returns c = filter_same _ (leads c.args.cells.now) _ (λ x b f' k. search rules) _ _ c.retain.ensures.filtered
