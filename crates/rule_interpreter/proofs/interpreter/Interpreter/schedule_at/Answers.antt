use Rattle.std.proofs.Common.{ℕ, List, length, map, ap, arith, refl, Option, Some}
use Rattle.machine_state.specs.State.{Run}
use Rattle.machine_rules.specs.Operations.{Nothing, Schedule}
use Rattle.run_context.specs.code.Scope.{path_in}
use Rattle.run_context.proofs.Yielding.{finds-none, at-null, at-object}
use Rattle.rule_interpreter.proofs.Bodies.{of-layer, lacks-value, advances-one, does-nothing, does-schedule}
use Rattle.rule_interpreter.proofs.interpreter.Interpreter.schedule_at.Goals as goal

pub returns-in_err-found : goal.returns-in_err-found
returns-in_err-found g c = record { advances = λ rest x is. lacks-value _ _ c.requires.due is (λ bad. rw (c.scope.ensures.objects, c.scope.ensures.this, c.scope.ensures.arguments) at (finds-none Nothing (λ (x : ℕ). Some (Schedule x)) (path_in c.scope.result c.args.path.now) c.in_err-found.ensures bad)) c.from_residual.ensures.1 }

pub returns-in-None : goal.returns-in-None
returns-in-None g c = record {
  advances = λ rest x is.
      let higher = ap (λ (l : List (Option ℕ)). length l) c.over-over.ensures in
      let does = of-layer _ _ _ _ is (at-null _ _ _ _ c.args.path.now (rw c.in-None.is at (rw (c.scope.ensures.objects, c.scope.ensures.this, c.scope.ensures.arguments) at c.in_ok-found.ensures))) in
      advances-one _ (does-nothing c.args.call.now.method (map Run rest) _ _ does c.requires.room c.requires.sound.is.agree c.requires.due (omega (arith, c.count-in-None.ensures, higher)) c.pass_null.ensures);
}

pub returns-in-Some : goal.returns-in-Some
returns-in-Some g c = record {
  advances = λ rest x is.
      let higher = ap (λ (l : List (Option ℕ)). length l) c.over-over.ensures in
      let there = rw c.in-Some.is at (rw (c.scope.ensures.objects, c.scope.ensures.this, c.scope.ensures.arguments) at c.in_ok-found.ensures) in
      let does = of-layer _ _ _ _ is (at-object _ _ _ _ c.args.path.now there refl) in
      advances-one _ (does-schedule c.args.call.now.method (map Run rest) _ _ _ does c.requires.room c.requires.sound.is.agree c.requires.due (omega (arith, c.count.ensures, higher)) c.schedule.ensures);
}
