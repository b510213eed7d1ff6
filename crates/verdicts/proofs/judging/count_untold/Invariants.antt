use Rattle.std.proofs.Common.{◌≡◌}
use Rattle.verdicts.proofs.judging.count_untold.Given as goal

-- no error is added
abbrev pub invariant-loop-rule : goal.invariant-loop-rule
invariant-loop-rule l = l.found.errors ≡ l.initial.found.errors
