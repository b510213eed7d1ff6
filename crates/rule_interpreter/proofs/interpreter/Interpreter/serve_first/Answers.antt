use Rattle.std.proofs.Common.{◌∙◌, ap, arith}
use Rattle.machine_state.specs.declared.world.World.{World}
use Rattle.machine_rules.proofs.Dying.{copied-none, copied-living}
use Rattle.rule_interpreter.proofs.Turning.{reaches-ended, reaches-passed, reaches-deleting, advances-served}
use Rattle.machine_rules.proofs.Soundness.{reaches-sound}
use Rattle.rule_interpreter.proofs.interpreter.Interpreter.serve_first.Goals as goal

pub returns-in_default : goal.returns-in_default
returns-in_default g c =
    let went = reaches-ended c.requires.goes_on c.in_default.ensures c.requires.sound.is.agree c.requires.left c.end_turn.ensures in
    let less = ap (λ (u : World). u.left) c.end_turn.ensures in
    record { cases = (went, omega (arith, less, c.requires.left)) }

pub run_deletion-requires-clause-sound : goal.run_deletion-requires-clause-sound
run_deletion-requires-clause-sound g c =
    let went = reaches-deleting {natives = g.N.Answering.gives c.args.self.now.natives} c.requires.goes_on (record { posted = c.in-Some.first.now; found = c.in-Some.ensures; is = c.in-Deletion.is }) c.requires.room c.requires.sound.is.agree c.requires.left c.take_unwritten-in-Deletion.ensures in
    reaches-sound (tt, tt) c.requires.sound went

pub returns-else-is_some : goal.returns-else-is_some
returns-else-is_some g c =
    let gone = copied-none _ _ c.is_some.ensures c.if-is_some.false ∙ c.life.ensures in
    let went = reaches-passed c.requires.goes_on (record { posted = c.in-Some.first.now; found = c.in-Some.ensures; is = c.in-Call.is }) gone c.requires.sound.is.agree c.requires.left c.take_unwritten.ensures in
    let less = ap (λ (u : World). u.left) c.take_unwritten.ensures in
    record { cases = (went, omega (arith, less, c.requires.left)) }

pub returns-in-Deletion : goal.returns-in-Deletion
returns-in-Deletion g c =
    let went = reaches-deleting c.requires.goes_on (record { posted = c.in-Some.first.now; found = c.in-Some.ensures; is = c.in-Deletion.is }) c.requires.room c.requires.sound.is.agree c.requires.left c.take_unwritten-in-Deletion.ensures in
    let less = ap (λ (u : World). u.left) c.take_unwritten-in-Deletion.ensures in
    advances-served c.run_deletion.result c.nothing.ensures went less c.requires.left c.run_deletion.ensures.ends

pub serve_call-requires-clause-first : goal.serve_call-requires-clause-first
serve_call-requires-clause-first g c = record {
  object = c.in-Call.object;
  method = c.in-Call.method;
  arguments = c.in-Call.arguments;
  first = record { posted = c.in-Some.first.now; found = c.in-Some.ensures; is = c.in-Call.is };
  lives = copied-living c.args.world.now.store.tree c.in-Call.object _ _ c.is_some.ensures c.if-is_some.true c.life.ensures;
}
