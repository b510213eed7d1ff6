use Rattle.std.proofs.Common.{◌≡◌, drop}
use Rattle.binding_graph.specs.Places.{is_in}
use Rattle.binding_graph.proofs.place.contains.Given as goal

-- of those that are left it is one exactly where it is one of all
abbrev pub invariant-loop-each : goal.invariant-loop-each
invariant-loop-each l = is_in (drop l.each-index l.places) l.place ≡ is_in l.places l.place
