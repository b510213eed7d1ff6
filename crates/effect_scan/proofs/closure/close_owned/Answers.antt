use Rattle.std.proofs.Common.{◌≡◌, ◌∙◌, length}
use Rattle.std.proofs.lemmas.Result.{IfOk-weaker}
use Rattle.effect_scan.proofs.Relating.{lineage_low, first_is, closures_are}
use Rattle.effect_scan.proofs.closure.close_owned.Goals as goal

pub relate_owned-requires-clause-inside : goal.relate_owned-requires-clause-inside
relate_owned-requires-clause-inside c = lineage_low c.args.meta.now _ _ c.requires.lineage c.requires.empty

pub returns : goal.returns
returns c =
    let p = c.args.meta.now in
    let owned = rw c.owned.ensures at c.relate_owned.ensures in
    let size : length c.relate_own.new.relation ≡ length p.classes =
    c.relate_own.ensures.square.count ∙ c.relate_owned.ensures.square.count ∙ c.requires.empty.square.count ∙ c.requires.lineage.count in
    IfOk-weaker _ _ _
    (λ lists listed. closures_are p _ _ lists size (first_is p _ _ _ _ c.requires.lineage c.requires.empty owned c.relate_own.ensures) c.in_ok-close.ensures listed)
    c.list_rows.ensures
