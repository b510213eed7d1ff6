use Rattle.std.proofs.Common.{◌<◌, ◌≤◌, length, arith}
use Rattle.std.proofs.lemmas.Option.{slice_get-get_or}
use Rattle.effect_scan.proofs.Gathered.{settled_none, settled_step, settled_all, alike_all}
use Rattle.effect_scan.proofs.sharing.settle_all.Goals as goal

pub loop-node-init : goal.loop-node-init
loop-node-init c = settled_none _ c.args.rows.now c.args.twins.now

pub settle-requires : goal.settle-requires
settle-requires c = omega (arith, c.loop-node.invariant.count, c.loop-node-test.true)

pub loop-node-preserved : goal.loop-node-preserved
loop-node-preserved c =
    let inside : c.loop-node.node < length c.loop-node.rows = omega (arith, c.loop-node.invariant.count, c.loop-node-test.true) in
    let within : c.loop-node.node < length c.args.twins.now = omega (arith, c.requires.count, c.loop-node-test.true) in
    settled_step c.args.lists.now c.args.rows.now c.args.named.now c.args.twins.now c.requires.named c.requires.twins _ _ c.loop-node.node _ inside (slice_get-get_or c.args.twins.now c.loop-node.node 0 within) c.in_ok-settle.ensures c.loop-node.invariant

pub returns-clause-order : goal.returns-clause-order
returns-clause-order c =
    let past : length c.loop-node.rows ≤ c.loop-node.node = omega (arith, c.loop-node.invariant.count, c.loop-node-test.false) in
    settled_all c.args.lists.now c.args.rows.now c.args.named.now c.args.twins.now c.requires.named c.requires.twins _ _ past c.loop-node.invariant

pub returns-clause-alike : goal.returns-clause-alike
returns-clause-alike c =
    let past : length c.loop-node.rows ≤ c.loop-node.node = omega (arith, c.loop-node.invariant.count, c.loop-node-test.false) in
    alike_all c.args.lists.now c.args.rows.now c.args.named.now c.args.twins.now c.requires.named c.requires.twins _ _ past c.loop-node.invariant
