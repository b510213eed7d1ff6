use Rattle.std.proofs.Common.{ℕ, List, subst}
use Rattle.std.specs.List.{Contains}
use Rattle.rank_check.proofs.destroys.lost_from.Goals as goal

pub lost_class-requires : goal.lost_class-requires
lost_class-requires c = λ b h. c.requires.inside b (subst (λ (ts : List ℕ). Contains ts b) c.targets.ensures h)
