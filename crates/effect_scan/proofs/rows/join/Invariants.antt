use Rattle.std.proofs.Common.{take}
use Rattle.effect_scan.specs.code.Adding.{Adds, Joins}
use Rattle.effect_scan.proofs.rows.join.Given as goal

abbrev pub invariant-loop-source : goal.invariant-loop-source
invariant-loop-source l = Adds (Joins (take l.source-index l.sources) l.targets) l.initial.rows l.rows
