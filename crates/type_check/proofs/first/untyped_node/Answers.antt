use Rattle.std.proofs.Common.{List, map, ap, ◌∙◌}
use Rattle.meta_model.specs.declared.object.MetaObject.{MetaObject}
use Rattle.meta_model.proofs.Searches.{read_at}
use Rattle.effect_scan.specs.Nodes.{shape_of, nodes_from}
use Rattle.type_check.proofs.Firsts.{have_more}
use Rattle.type_check.proofs.Ordered.{all_nodes, first_node}
use Rattle.type_check.proofs.first.untyped_node.Goals as goal

pub returns-in-Some : goal.returns-in-Some
returns-in-Some c =
    let are = c.nodes-node-items.ensures ∙ c.in_ok-numbering.ensures ∙ ap (λ (cs : List MetaObject). nodes_from 0 (map shape_of cs)) c.classes.ensures.value in
    first_node c.args.meta.now c.classes.ensures.sound _ are _ _ c.loop-node.invariant c.loop-node-test.true (read_at _ _ _ c.loop-node-test.true) (rw c.in-Some.is at c.in_ok-node_flaw.ensures).0

pub loop-node-preserved : goal.loop-node-preserved
loop-node-preserved c = have_more _ _ _ _ c.loop-node.invariant c.loop-node-test.true (read_at _ _ _ c.loop-node-test.true) (rw c.in-None.is at c.in_ok-node_flaw.ensures)

pub returns : goal.returns
returns c =
    let are = c.nodes-node-items.ensures ∙ c.in_ok-numbering.ensures ∙ ap (λ (cs : List MetaObject). nodes_from 0 (map shape_of cs)) c.classes.ensures.value in
    all_nodes c.args.meta.now c.classes.ensures.sound _ are _ c.loop-node.invariant c.loop-node-test.false
