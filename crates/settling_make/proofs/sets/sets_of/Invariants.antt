use Rattle.rank_graph.specs.Solutions.{rank_of}
use Rattle.settling_make.specs.Sets.{AreSetsTo}
use Rattle.settling_make.proofs.sets.sets_of.Given as goal

abbrev pub invariant-loop-component : goal.invariant-loop-component
invariant-loop-component l = AreSetsTo l.meta l.scan.rows l.found (rank_of l.heights) l.component (record { sets = l.sets; places = l.places })
