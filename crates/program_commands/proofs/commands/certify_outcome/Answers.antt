use Rattle.program_commands.specs.Steps.{fails, goes_on}
use Rattle.program_commands.proofs.commands.certify_outcome.Goals as goal

pub returns-in-Err : goal.returns-in-Err
returns-in-Err c = fails c.in-Err.refusal c.in-Err.ensures

pub with_least_text-requires : goal.with_least_text-requires
with_least_text-requires c = c.in-Ok-make_bound.ensures

pub returns-in-Ok-make_bound : goal.returns-in-Ok-make_bound
returns-in-Ok-make_bound c = goes_on c.in-Ok.meta _ c.in-Ok.ensures c.with_least_text.ensures

pub returns-in-Err-make_bound : goal.returns-in-Err-make_bound
returns-in-Err-make_bound c = goes_on c.in-Ok.meta _ c.in-Ok.ensures (fails c.in-Err-make_bound.why c.in-Err-make_bound.ensures)
