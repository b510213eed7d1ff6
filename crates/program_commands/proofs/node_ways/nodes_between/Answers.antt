use Rattle.std.proofs.Common.{◌≡◌, ◌<◌, Bool, true, false, List, length, replicate, set, sym, ap, ◌∙◌, arith}
use Rattle.std.proofs.lemmas.List.{length-set, length-replicate}
use Rattle.std.proofs.lemmas.Option.{slice_get_within}
use Rattle.effect_scan.specs.declared.node.Node.{Node}
use Rattle.effect_scan.specs.Nodes.{nodes_of}
use Rattle.program_commands.proofs.NodeWays.{if_ok, ends_there, ends_only}
use Rattle.program_commands.proofs.node_ways.nodes_between.Goals as goal

pub set-requires : goal.set-requires
set-requires c =
    let low : c.number_of-last.result < length (nodes_of c.args.meta.now) = slice_get_within (nodes_of c.args.meta.now) c.number_of-last.result c.args.to c.number_of-last.ensures in
    let count = ap (λ (ns : List Node). length ns) (c.nodes.ensures ∙ c.requires.scan.nodes) in
    omega (arith, low, count, ap length c.in_ok-ends.ensures ∙ length-replicate _ _)

pub nodes_to-requires-clause-ends : goal.nodes_to-requires-clause-ends
nodes_to-requires-clause-ends c =
    let count = ap (λ (ns : List Node). length ns) c.nodes.ensures in
    ap (λ (l : List Bool). length l) (c.as_slice.ensures ∙ c.set.ensures) ∙ (length-set _ _ _ ∙ (ap (λ (l : List Bool). length l) c.in_ok-ends.ensures ∙ (length-replicate _ _ ∙ count)))

pub nodes_to-requires-clause-leads : goal.nodes_to-requires-clause-leads
nodes_to-requires-clause-leads c =
    let last = c.number_of-last.result in
    let low : last < length (nodes_of c.args.meta.now) = slice_get_within (nodes_of c.args.meta.now) last c.args.to c.number_of-last.ensures in
    let count = ap (λ (ns : List Node). length ns) (c.nodes.ensures ∙ c.requires.scan.nodes) in
    let alone = c.as_slice.ensures ∙ (c.set.ensures ∙ ap (λ (l : List Bool). set l last true) c.in_ok-ends.ensures) in
    ends_there c.args.meta.now c.args.closed c.as_slice.result.now (length c.nodes.result.now) last c.args.to c.number_of-last.ensures alone c.args.from c.requires.leads.0 c.requires.leads.1 c.requires.leads.2 (omega (arith, low, count))

pub returns : goal.returns
returns c =
    let last = c.number_of-last.result in
    let alone = c.as_slice.ensures ∙ (c.set.ensures ∙ ap (λ (l : List Bool). set l last true) c.in_ok-ends.ensures) in
    if_ok _ _ _ (λ nodes way. ends_only c.args.meta.now c.args.closed c.as_slice.result.now (length c.nodes.result.now) last c.args.to c.number_of-last.ensures alone c.args.from nodes way) c.nodes_to.ensures
