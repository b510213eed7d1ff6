use Rattle.machine_rules.proofs.ReachedStates.{reaches-same, reaches-then, stops-after, stops-as, ends-left}
use Rattle.machine_rules.proofs.Soundness.{reaches-sound}
use Rattle.rule_interpreter.proofs.Turning.{stops-turn}
use Rattle.rule_interpreter.proofs.interpreter.Interpreter.run_turn.Goals as goal

pub loop-world-init : goal.loop-world-init
loop-world-init g c = record { reaches = reaches-same; sound = c.requires.sound }

pub loop-world-preserved : goal.loop-world-preserved
loop-world-preserved g c =
    let went = c.in_ok-serve.ensures.cases in
    record { reaches = reaches-then c.loop-world.invariant.reaches went.0; sound = reaches-sound (tt, tt) c.loop-world.invariant.sound went.0 }

pub loop-world-smaller : goal.loop-world-smaller
loop-world-smaller g c = c.in_ok-serve.ensures.cases.1

pub returns-in_err-require_rule-clause-ends : goal.returns-in_err-require_rule-clause-ends
returns-in_err-require_rule-clause-ends g c =
    ends-left _ (stops-after c.loop-world.invariant.reaches (stops-as c.in_err-require_rule.ensures.1 (stops-turn c.in-Some.is c.in_err-require_rule.ensures.0))) c.from_residual.ensures.1

pub returns-in_err-serve-clause-ends : goal.returns-in_err-serve-clause-ends
returns-in_err-serve-clause-ends g c = ends-left _ (stops-after c.loop-world.invariant.reaches c.in_err-serve.ensures.cases) c.from_residual-in_err-serve.ensures.1

pub returns-clause-ends : goal.returns-clause-ends
returns-clause-ends g c = record { cases = c.loop-world.invariant.reaches }
