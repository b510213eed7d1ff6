use Rattle.std.proofs.Common.{List, ℕ, subst}
use Rattle.effect_scan.specs.code.Adding.{HasBoth}
use Rattle.effect_scan.proofs.targets.HeldNumbers.united.Goals as goal

pub returns-in_ok-list-in_default : goal.returns-in_ok-list-in_default
returns-in_ok-list-in_default c = subst (λ (l : List ℕ). HasBoth l c.args.numbers.now c.in_ok-list-in_default.list) c.as_slice.ensures c.in_ok-list-in_default.ensures
