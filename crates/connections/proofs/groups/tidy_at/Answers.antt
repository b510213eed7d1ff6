use Rattle.std.proofs.Common.{List, sym, subst}
use Rattle.connections.specs.declared.place.CellPlace.{CellPlace}
use Rattle.connections.specs.code.CellPlaces.{Tidies}
use Rattle.connections.specs.code.Groups.{list_of}
use Rattle.connections.proofs.groups.tidy_at.Goals as goal

pub returns-in-Some : goal.returns-in-Some
returns-in-Some g c = λ q.
    let P : List CellPlace → Type 0 = λ new. Tidies c.args.cells.now (list_of g.K.PartialEq.eq c.args.groups.now q) new in
    subst P (sym (c.drop_empty.ensures q)) (c.forget_places.ensures q)
