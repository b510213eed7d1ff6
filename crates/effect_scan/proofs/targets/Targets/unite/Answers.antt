use Rattle.std.proofs.Common.{List, ℕ, ap, ◌∙◌, subst}
use Rattle.effect_scan.specs.code.Adding.{HasBoth}
use Rattle.effect_scan.specs.code.Holding.{held_list}
use Rattle.effect_scan.proofs.targets.Targets.unite.Goals as goal

pub returns : goal.returns
returns c =
    subst (λ (l : List ℕ). HasBoth l c.args.numbers.now (held_list c.in_ok-self-inside.field-0)) (ap held_list c.replace-held.ensures.value ∙ c.self.view_is) c.in_ok-self-inside.ensures
