use Rattle.std.proofs.Common.{All, take}
use Rattle.slot_lang.proofs.FewTypes.{HasFew}
use Rattle.slot_lang.proofs.limits.+bodies.Given as goal

abbrev pub invariant-body_has_few_parameters-loop-statement : goal.invariant-body_has_few_parameters-loop-statement
invariant-body_has_few_parameters-loop-statement l = All HasFew (take l.statement-index l.body)
