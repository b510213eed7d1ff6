use Rattle.std.proofs.Common.{ℕ, List, subst}
use Rattle.std.specs.List.{Contains}
use Rattle.rank_check.proofs.ranks.first_risen.Goals as goal

pub first_as_high-requires : goal.first_as_high-requires
first_as_high-requires c = λ b h. c.requires.inside b (subst (λ (ts : List ℕ). Contains ts b) c.targets.ensures h)
