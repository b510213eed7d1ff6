use Rattle.settling_make.specs.Margins.{ArePlacedTo}
use Rattle.settling_make.proofs.margins.placed.Given as goal

abbrev pub invariant-loop-number : goal.invariant-loop-number
invariant-loop-number l = ArePlacedTo l.scan.nodes l.found.numbers l.made.places l.number l.standings
