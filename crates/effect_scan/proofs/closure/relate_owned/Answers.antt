use Rattle.std.proofs.Common.{ℕ, List, subst, arith}
use Rattle.std.specs.List.{Contains}
use Rattle.std.proofs.lemmas.Option.{slice_get-get_or}
use Rattle.effect_scan.proofs.Relating.{owned_more, owned_all}
use Rattle.effect_scan.proofs.closure.relate_owned.Goals as goal

pub relate-requires-clause-firsts : goal.relate-requires-clause-firsts
relate-requires-clause-firsts c = λ i h. let low = c.requires.inside _ i (subst (λ (l : List ℕ). Contains l i) c.targets_at-parents.ensures h) in omega (arith, low, c.loop-owns.invariant.square.count)

pub relate-requires-clause-others : goal.relate-requires-clause-others
relate-requires-clause-others c = λ i h. let low = c.requires.inside _ i (subst (λ (l : List ℕ). Contains l i) c.targets_at-children.ensures h) in omega (arith, low, c.loop-owns.invariant.square.count)

pub loop-owns-preserved : goal.loop-owns-preserved
loop-owns-preserved c =
    owned_more c.args.lineage.now c.args.owned.now _ _ _ _ _ _ _ (slice_get-get_or c.args.owned.now c.loop-owns.owns-index _ c.loop-owns-test.true) c.targets_at-parents.ensures c.targets_at-children.ensures c.loop-owns.invariant c.relate.ensures

pub returns : goal.returns
returns c = owned_all c.args.lineage.now c.args.owned.now _ _ _ c.loop-owns-test.false c.loop-owns.invariant
