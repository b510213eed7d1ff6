use Rattle.std.proofs.Common.{List, ℕ, ◌++◌, sym, subst, arith}
use Rattle.std.proofs.lemmas.Result.{IfOk-weaker}
use Rattle.effect_scan.specs.code.Adding.{IsOrdered}
use Rattle.effect_scan.specs.code.Families.{spread}
use Rattle.effect_scan.proofs.Gathered.{merge_none, merge_more, merge_all}
use Rattle.effect_scan.proofs.sharing.merge.Goals as goal

pub loop-number-init : goal.loop-number-init
loop-number-init c = merge_none c.args.lists.now c.args.row.now c.args.named.now

pub loop-number-preserved : goal.loop-number-preserved
loop-number-preserved c = merge_more c.args.lists.now c.args.row.now _ _ _ c.args.named.now _ c.loop-number-test.true c.loop-number.invariant c.row_at.ensures c.in_ok-unite.ensures

pub returns-then-is_empty : goal.returns-then-is_empty
returns-then-is_empty c = merge_all c.args.lists.now c.args.row.now _ _ c.args.named.now _ (omega (arith, c.loop-number-test.false)) c.loop-number.invariant c.in_ok-put_in_order.ensures

pub returns : goal.returns
returns c =
    let ordered = merge_all c.args.lists.now c.args.row.now _ _ c.args.named.now _ (omega (arith, c.loop-number-test.false)) c.loop-number.invariant c.in_ok-put_in_order.ensures in
    IfOk-weaker _ _ _ (λ x same. subst (λ (l : List ℕ). IsOrdered (c.args.row.now ++ spread c.args.lists.now c.args.named.now) l) (sym same) ordered) c.share.ensures
