use Rattle.std.proofs.Common.{ℕ, List, length, map, ap, arith, Option}
use Rattle.machine_state.specs.State.{Run}
use Rattle.machine_rules.specs.Operations.{Disconnect}
use Rattle.run_context.proofs.Yielding.{between-none}
use Rattle.rule_interpreter.proofs.Bodies.{of-layer, lacks-value, advances-one, does-nothing, does-disconnect}
use Rattle.rule_interpreter.proofs.interpreter.Interpreter.disconnect.Goals as goal

pub returns-in_err-found : goal.returns-in_err-found
returns-in_err-found g c = record { advances = λ rest x is. lacks-value _ _ c.requires.due is (λ bad. rw (c.scope.ensures.objects, c.scope.ensures.this, c.scope.ensures.arguments) at (between-none c.scope.result c.args.ends.now Disconnect c.in_err-found.ensures bad)) c.from_residual.ensures.1 }

pub returns-in-None : goal.returns-in-None
returns-in-None g c = record {
  advances = λ rest x is.
      let higher = ap (λ (l : List (Option ℕ)). length l) c.over-over.ensures in
      let does = of-layer _ _ _ _ is (rw (c.scope.ensures.objects, c.scope.ensures.this, c.scope.ensures.arguments) at ((rw c.in-None.is at c.in_ok-found.ensures) Disconnect)) in
      advances-one _ (does-nothing c.args.call.now.method (map Run rest) _ _ does c.requires.room c.requires.sound.is.agree c.requires.due (omega (arith, c.count-in-None.ensures, higher)) c.pass_null.ensures);
}

pub returns-in-Some : goal.returns-in-Some
returns-in-Some g c = record {
  advances = λ rest x is.
      let higher = ap (λ (l : List (Option ℕ)). length l) c.over-over.ensures in
      let does = of-layer _ _ _ _ is (rw (c.scope.ensures.objects, c.scope.ensures.this, c.scope.ensures.arguments) at ((rw c.in-Some.is at c.in_ok-found.ensures) Disconnect)) in
      advances-one _ (does-disconnect c.args.call.now.method (map Run rest) _ _ _ does c.requires.room c.requires.sound.is.agree c.requires.due (omega (arith, c.count.ensures, higher)) c.disconnect.ensures);
}
