use Rattle.std.proofs.Common.{take}
use Rattle.effect_scan.specs.code.Adding.{Joins}
use Rattle.effect_scan.specs.code.Relations.{Extends}
use Rattle.effect_scan.proofs.closure.relate.Given as goal

abbrev pub invariant-loop-first : goal.invariant-loop-first
invariant-loop-first l = Extends (Joins (take l.first-index l.firsts) l.others) l.initial.relation l.relation
