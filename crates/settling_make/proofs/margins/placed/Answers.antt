use Rattle.std.proofs.Common.{List, length, ap, ◌∙◌, arith}
use Rattle.effect_scan.specs.declared.node.Node.{Node}
use Rattle.rank_check.specs.Entries.{place_at}
use Rattle.settling.proofs.Passing.{read_same}
use Rattle.settling_make.proofs.Asking.{placed_none, placed_more, placed_all}
use Rattle.settling_make.proofs.margins.placed.Goals as goal

pub loop-number-init : goal.loop-number-init
loop-number-init c = placed_none c.args.scan.now.nodes c.args.found.now.numbers c.args.made.now.places _ c.new-standings.ensures

pub loop-number-preserved : goal.loop-number-preserved
loop-number-preserved c =
    placed_more c.args.scan.now.nodes c.args.found.now.numbers c.args.made.now.places c.loop-number.number c.loop-number.standings _ _ c.in_ok-push.ensures.ok
    (record {
      node = read_same c.nodes-node-items.result.now c.args.scan.now.nodes c.loop-number.number _ c.nodes-node-items.ensures c.loop-number-test.true;
      set = c.set_of-set.ensures ∙ ap (place_at c.args.made.now.places) c.number.ensures;
    })
    c.loop-number.invariant

pub returns : goal.returns
returns c =
    let count = ap (λ (ns : List Node). length ns) c.nodes-node-items.ensures in
    placed_all c.args.scan.now.nodes c.args.found.now.numbers c.args.made.now.places c.loop-number.number _ c.loop-number.standings (omega (arith, count, c.loop-number-test.false)) c.loop-number.invariant
