use Rattle.program_commands.proofs.Lining.{all_taken}
use Rattle.program_commands.proofs.certifying.least_text.Goals as goal

pub returns-in-Ok : goal.returns-in-Ok
returns-in-Ok c = all_taken c.args.meta.now _ _ _ c.in-Ok.is (rw c.new-text.ensures.items at c.in_ok-send_least.ensures)
