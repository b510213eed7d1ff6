use Rattle.std.proofs.Common.{subst}
use Rattle.program_commands.specs.Texts.{ProgramText}
use Rattle.rank_make.specs.Ranked.{AreRanksOf}
use Rattle.program_commands.proofs.certified.Certified.ranks.Goals as goal

pub returns : goal.returns
returns c = subst (λ (checked : ProgramText). AreRanksOf checked.program c.self.inside.ranks) c.self.view_is c.self.invariant
