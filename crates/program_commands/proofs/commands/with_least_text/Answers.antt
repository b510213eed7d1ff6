use Rattle.std.proofs.Common.{ℕ, List, ap}
use Rattle.program_commands.specs.declared.outcome.Outcome.TheVariants.{Certificate as Certified}
use Rattle.program_commands.specs.Steps.{fails, goes_on}
use Rattle.program_commands.specs.Texts.{with_text}
use Rattle.rank_make.specs.declared.why.Why.TheVariants.{Memory}
use Rattle.program_commands.proofs.commands.with_least_text.Goals as goal

pub new-requires : goal.new-requires
new-requires c = c.requires.are

pub returns-in-Ok : goal.returns-in-Ok
returns-in-Ok c =
    let found = c.in-Ok.ensures in
    rw c.new.ensures (goes_on found.certificate _ found.least (ap (λ (text : List ℕ). Certified (with_text c.args.meta text)) found.is))

pub returns-in-Err : goal.returns-in-Err
returns-in-Err c = fails Memory tt
