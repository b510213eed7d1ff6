use Rattle.std.proofs.Common.{◌<◌, ℕ, List, length, sym, subst}
use Rattle.std.specs.List.{Contains}
use Rattle.effect_scan.proofs.families.Families.join.Goals as goal

pub joined-requires : goal.joined-requires
joined-requires c = subst (λ (l : List (List ℕ)). (a : ℕ) → Contains c.args.sources.now a → a < length l) (sym c.replace-families.ensures.value) c.requires
