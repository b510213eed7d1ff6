use Rattle.run_context.specs.code.Scope.{objects_in}
use Rattle.std.proofs.Common.{subst}
use Rattle.expressions.specs.declared.evaluation.EvalFault.{EvalFault}
use Rattle.std.specs.Prelude.{Err}
use Rattle.machine_rules.specs.Paths.{path_value}
use Rattle.run_context.specs.code.Coded.{Finds}
use Rattle.run_context.proofs.Yielding.{ends-left, no-sender, no-receiver, null-sender, null-receiver, at-ends}
use Rattle.run_context.proofs.statements.paths.Scope.ends_at.Goals as goal

pub returns-in_err-sender : goal.returns-in_err-sender
returns-in_err-sender c =
    let At : EvalFault → Type 0 = λ g. Finds (path_value (objects_in c.args.self.now) c.args.self.now.this c.args.self.now.arguments.now c.args.ends.now.sender) (Err g) in
    ends-left c.args.self.now c.args.ends.now _ _ (λ bad act. no-sender (objects_in c.args.self.now) c.args.self.now.this c.args.self.now.arguments.now act c.args.ends.now (subst At bad c.in_err-sender.ensures)) c.from_residual.ensures.1

pub returns-in_default : goal.returns-in_default
returns-in_default c = λ act. null-sender (objects_in c.args.self.now) c.args.self.now.this c.args.self.now.arguments.now act c.args.ends.now (rw c.in_default.is at c.in_ok-sender.ensures)

pub returns-in_err-receiver : goal.returns-in_err-receiver
returns-in_err-receiver c =
    let At : EvalFault → Type 0 = λ g. Finds (path_value (objects_in c.args.self.now) c.args.self.now.this c.args.self.now.arguments.now c.args.ends.now.receiver) (Err g) in
    ends-left c.args.self.now c.args.ends.now _ _ (λ bad act. no-receiver (objects_in c.args.self.now) c.args.self.now.this c.args.self.now.arguments.now act c.args.ends.now (rw c.in-Some.is at c.in_ok-sender.ensures) (subst At bad c.in_err-receiver.ensures)) c.from_residual-in_err-receiver.ensures.1

pub returns-in_default-2 : goal.returns-in_default-2
returns-in_default-2 c = λ act. null-receiver (objects_in c.args.self.now) c.args.self.now.this c.args.self.now.arguments.now act c.args.ends.now (rw c.in-Some.is at c.in_ok-sender.ensures) (rw c.in_default-2.is at c.in_ok-receiver.ensures)

pub returns : goal.returns
returns c = λ act. at-ends (objects_in c.args.self.now) c.args.self.now.this c.args.self.now.arguments.now act c.args.ends.now (rw c.in-Some.is at c.in_ok-sender.ensures) (rw c.in-Some-2.is at c.in_ok-receiver.ensures)
