use Rattle.std.proofs.Common.{◌∙◌, ap, List}
use Rattle.connections.specs.declared.place.CellPlace.{CellPlace}
use Rattle.connections.specs.code.CellPlaces.{live, first_above}
use Rattle.connections.proofs.Numbers.{find-skip}
use Rattle.connections.proofs.search.next_above.Goals as goal

pub returns : goal.returns
returns c =
    let found = c.places_from.ensures in
    c.first_above.ensures
    ∙ ap (λ (ps : List CellPlace). first_above c.args.number (live c.args.cells.now ps)) found.1
    ∙ find-skip c.args.cells.now c.args.places.now found.0 c.args.number found.2.below
