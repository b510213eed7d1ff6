use Rattle.std.proofs.Common.{◌≡◌, ℕ, List, [], length, replicate, ap, ◌∙◌}
use Rattle.effect_scan.proofs.Gathered.{gathered_none, named_none}
use Rattle.effect_scan.proofs.families.Families.of.Goals as goal

pub invariant_of-result : goal.invariant_of-result
invariant_of-result c = named_none _ _ _ (c.in_ok-named.ensures ∙ ap (λ (l : List (List ℕ)). replicate (length l) []) c.as_slice-rows.ensures.value)

pub returns : goal.returns
returns c = gathered_none _ _ _ (c.in_ok-named.ensures ∙ ap (λ (l : List (List ℕ)). replicate (length l) []) c.as_slice-rows.ensures.value)
