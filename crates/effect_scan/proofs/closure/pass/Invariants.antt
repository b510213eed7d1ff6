use Rattle.std.proofs.Common.{◌<◌}
use Rattle.effect_scan.specs.code.Relations.{Extends, Passes}
use Rattle.effect_scan.proofs.closure.pass.Given as goal

abbrev pub invariant-loop-first : goal.invariant-loop-first
invariant-loop-first l = Extends (λ i j. (i < l.first) × Passes l.initial.relation l.class l.others i j) l.initial.relation l.relation
