use Rattle.std.proofs.Common.{ℕ, List, length, ap, ◌∙◌}
use Rattle.std.proofs.lemmas.List.{length-replicate}
use Rattle.meta_model.specs.declared.object.MetaObject.{MetaObject}
use Rattle.effect_scan.proofs.Gathered.{written_back}
use Rattle.effect_scan.proofs.Climbing.{lineage_made}
use Rattle.effect_scan.proofs.lineage.lineage.Goals as goal

pub add_lineage-requires : goal.add_lineage-requires
add_lineage-requires c =
    let size = ap (λ (cs : List MetaObject). length cs) c.classes.ensures.value in
    ap (λ (l : List (List ℕ)). length l) (c.as_mut_slice.ensures.value ∙ c.in_ok-rows.ensures) ∙ length-replicate _ _ ∙ size

pub returns : goal.returns
returns c =
    let size = ap (λ (cs : List MetaObject). length cs) c.classes.ensures.value in
    let adds = c.in_ok-add_lineage.ensures in
    let back = written_back _ _ _ _ c.as_mut_slice.ensures.value c.as_mut_slice.ensures.len adds.count in
    lineage_made c.args.meta.now _ _ _ _ (c.as_mut_slice.ensures.value ∙ c.in_ok-rows.ensures) size adds (c.from_vec.ensures ∙ back)
