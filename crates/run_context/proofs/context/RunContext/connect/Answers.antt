use Rattle.run_context.proofs.Linking.{connect-refused, connect-made}
use Rattle.run_context.proofs.context.RunContext.connect.Goals as goal

pub returns-in-Err : goal.returns-in-Err
returns-in-Err c = connect-refused c.args.self.now.meta c.args.world.now c.note.new.self c.args.depth c.args.ends _ (rw c.in-Err.is at c.in-Some.ensures) (rw c.refused.ensures at c.note.ensures)

pub returns : goal.returns
returns c =
    connect-made c.args.self.now.meta c.args.world.now c.connect.new.self c.args.depth c.args.ends _ (rw c.in_default-answer.is at c.in-Some.ensures) (rw c.kept_ends-kept.ensures at c.in_ok-names.ensures.ok) (rw c.kept_ends-kept.ensures at c.connect.ensures)
