use Rattle.std.proofs.Common.{◌≡◌, drop}
use Rattle.std.specs.List.{list_any}
use Rattle.connections.specs.code.CellPlaces.{live}
use Rattle.connections.specs.code.Cells.{fits}
use Rattle.connections.proofs.search.lead_to_any.Given as goal

-- what the rest says is what all of them say
abbrev pub invariant-loop-place : goal.invariant-loop-place
invariant-loop-place l =
    list_any (fits l.removal) (live l.cells (drop l.place-index l.places)) ≡ list_any (fits l.removal) (live l.cells l.places)
