use Rattle.std.proofs.Common.{take}
use Rattle.rank_check.specs.Entries.{AreNumbers}
use Rattle.rank_check.proofs.naming.line_numbers.Given as goal

abbrev pub invariant-loop-place : goal.invariant-loop-place
invariant-loop-place l = AreNumbers l.meta (take l.place l.lines) l.numbers
