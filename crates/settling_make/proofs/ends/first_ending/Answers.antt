use Rattle.std.proofs.Common.{◌≤◌, List, length, sym, ap, ◌∙◌, arith}
use Rattle.effect_scan.specs.declared.node.Node.{Node}
use Rattle.effect_scan.specs.Nodes.{nodes_of}
use Rattle.rank_graph.specs.Solutions.{leads_of}
use Rattle.settling_make.proofs.Circling.{node_here}
use Rattle.settling_make.proofs.Ending.{before_none, before_more, ends_told, none_ends}
use Rattle.settling_make.proofs.ends.first_ending.Goals as goal
use Rattle.settling_make.proofs.ends.first_ending.Goals.{else-leads_to-via-then-leads_to+else-has_body, else-leads_to-via-else-leads_to}

pub loop-place-init : goal.loop-place-init
loop-place-init c = before_none c.args.meta.now c.args.numbers.now (leads_of c.args.destroyed.now)

pub returns : goal.returns
returns c =
    let count = ap (λ (ns : List Node). length ns) (c.nodes-node-items.ensures ∙ c.requires.scan.nodes) in
    let past : length (nodes_of c.args.meta.now) ≤ c.loop-place.place = omega arith in
    none_ends c.args.meta.now c.args.numbers.now (leads_of c.args.destroyed.now) c.loop-place.place c.edges_join_nodes.ensures c.requires.destroyed past c.loop-place.invariant

pub returns-then-has_body : goal.returns-then-has_body
returns-then-has_body c =
    ends_told c.args.meta.now c.args.numbers.now (leads_of c.args.destroyed.now) c.loop-place.place c.number_at.result _ c.requires.destroyed (node_here _ _ _ _ (c.nodes-node-items.ensures ∙ c.requires.scan.nodes) c.loop-place-test.true) (c.has_body.ensures.0 c.if-has_body.true)
    c.number_at.ensures (sym c.leads_to.ensures ∙ c.if-leads_to.true)

pub loop-place-preserved : goal.loop-place-preserved
loop-place-preserved c =
    before_more c.args.meta.now c.args.numbers.now (leads_of c.args.destroyed.now) c.loop-place.place _ (node_here _ _ _ _ (c.nodes-node-items.ensures ∙ c.requires.scan.nodes) c.loop-place-test.true)
    (elim c.else-leads_to.branch [
      | else-leads_to-via-then-leads_to+else-has_body w ↦ λ body told. let yes = w.has_body.ensures.1 body in let off = w.if-has_body.false in cc
      | else-leads_to-via-else-leads_to w ↦ λ body told.
          let off = w.if-leads_to.false in
          let here = c.leads_to.ensures in
          let number = c.number_at.ensures in
          cc
    ])
    c.loop-place.invariant
