use Rattle.std.proofs.Common.{◌≡◌, drop, nat_lt}
use Rattle.std.specs.List.{find}
use Rattle.connections.specs.code.CellPlaces.{live}
use Rattle.connections.proofs.search.first_above.Given as goal

-- the first among the rest is the first of all
abbrev pub invariant-loop-place : goal.invariant-loop-place
invariant-loop-place l =
    find (λ c. nat_lt l.number c.number) (live l.cells (drop l.place-index l.places)) ≡ find (λ c. nat_lt l.number c.number) (live l.cells l.places)
