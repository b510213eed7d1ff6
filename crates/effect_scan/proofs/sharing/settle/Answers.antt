use Rattle.std.proofs.Common.{◌≤◌, ◌++◌, get_or, set, arith}
use Rattle.std.proofs.lemmas.Result.{IfOk-weaker}
use Rattle.effect_scan.specs.code.Adding.{IsOrdered}
use Rattle.effect_scan.specs.code.Families.{spread, IsSettled}
use Rattle.effect_scan.proofs.Gathered.{settled_twin, settled_merged}
use Rattle.effect_scan.proofs.sharing.settle.Goals as goal

pub returns-then-twin-node : goal.returns-then-twin-node
returns-then-twin-node c = settled_twin c.args.lists.now c.args.named.now c.args.rows.now c.args.node c.args.twin c.index-rows-twin.result _ c.if-twin-node.true c.requires c.in_ok-row.ensures

pub returns : goal.returns
returns c =
    let past : c.args.node ≤ c.args.twin = omega (arith, c.if-twin-node.false) in
    IfOk-weaker c.merge.result (λ _. IsOrdered (get_or c.args.rows.now c.args.node c.index-rows-node-2.result ++ spread c.args.lists.now c.targets_at.result.now) c.merge.new.row)
    (λ _. IsSettled c.args.lists.now c.args.named.now c.args.node c.args.twin c.args.rows.now (set c.args.rows.now c.args.node c.merge.new.row))
    (λ x ordered.
    settled_merged c.args.lists.now c.args.named.now c.args.rows.now c.args.node c.args.twin c.index-rows-node-2.result c.targets_at.result.now c.merge.new.row c.requires past c.targets_at.ensures ordered)
    c.merge.ensures
