use Rattle.std.proofs.Common.{◌≡◌, drop, ◌++◌}
use Rattle.machine_rules.specs.Settling.{notified}
use Rattle.rule_interpreter.proofs.interpreter.Interpreter.notified.Given as goal

-- what is found, with what is to be notified of those that are left
abbrev pub invariant-loop-place : goal.invariant-loop-place
invariant-loop-place g l = l.places.items ++ notified l.self.context.meta l.objects (drop l.place-index l.changed) ≡ notified l.self.context.meta l.objects l.changed
