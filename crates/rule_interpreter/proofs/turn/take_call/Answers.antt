use Rattle.rule_interpreter.proofs.turn.take_call.Goals as goal

pub returns : goal.returns
returns c = (c.in_ok-taken.ensures.1, λ object method arguments first. cc (c.in-Some-Call.is, c.in_ok-taken.ensures.0, first.found, first.is))
