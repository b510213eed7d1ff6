use Rattle.std.proofs.Common.{◌≡◌, []}
use Rattle.verdicts.proofs.judging.add_remarks.Given as goal

-- no error is added where no rule is changed
abbrev pub invariant-loop-remark : goal.invariant-loop-remark
invariant-loop-remark l = l.levels.changes.now ≡ [] → l.found.errors ≡ l.initial.found.errors
