use Rattle.rank_graph.specs.Solutions.{leads_of}
use Rattle.settling_make.specs.Lines.{AreLinesTo}
use Rattle.settling_make.proofs.lines.lines_of.Given as goal

abbrev pub invariant-loop-place : goal.invariant-loop-place
invariant-loop-place l = AreLinesTo l.meta l.numbers l.ranks l.steps (leads_of l.destroyed) l.place l.lines
