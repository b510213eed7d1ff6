use Rattle.std.proofs.Common.{◌<◌, ◌∙◌, ℕ, List, length, get_or, ap, subst, arith}
use Rattle.std.specs.List.{AllZip}
use Rattle.std.proofs.lemmas.List.{take_all}
use Rattle.std.proofs.lemmas.List.Elements.{Contains-get_or}
use Rattle.effect_scan.specs.declared.node.Node.{Node}
use Rattle.name_indexes.proofs.Zips.{zip_push}
use Rattle.name_indexes.proofs.Searches.{read_at}
use Rattle.settling_make.specs.Sets.{IsNameOf}
use Rattle.settling_make.proofs.Circling.{node_here}
use Rattle.settling_make.proofs.sets.names_of.Goals as goal

pub bounds-nodes-member : goal.bounds-nodes-member
bounds-nodes-member c =
    let count = ap (λ (ns : List Node). length ns) c.nodes-nodes.ensures in
    let inside : get_or c.args.members.now c.loop-member.member-index 0 < length c.args.scan.now.nodes = c.requires.members _ (Contains-get_or c.args.members.now c.loop-member.member-index 0 c.loop-member-test.true) in
    omega arith

pub offset_bounds-nodes-member : goal.offset_bounds-nodes-member
offset_bounds-nodes-member c =
    let count = ap (λ (ns : List Node). length ns) c.nodes-nodes.ensures in
    let inside : get_or c.args.members.now c.loop-member.member-index 0 < length c.args.scan.now.nodes = c.requires.members _ (Contains-get_or c.args.members.now c.loop-member.member-index 0 c.loop-member-test.true) in
    omega arith

pub node_name-requires : goal.node_name-requires
node_name-requires c =
    let count = ap (λ (ns : List Node). length ns) c.nodes-nodes.ensures in
    let inside : get_or c.args.members.now c.loop-member.member-index 0 < length c.args.scan.now.nodes = c.requires.members _ (Contains-get_or c.args.members.now c.loop-member.member-index 0 c.loop-member-test.true) in
    let low : get_or c.args.members.now c.loop-member.member-index 0 < length c.nodes-nodes.result.now = omega arith in
    (get_or c.args.members.now c.loop-member.member-index 0, node_here _ _ _ _ (c.nodes-nodes.ensures ∙ c.requires.scan.nodes) low)

pub loop-member-preserved : goal.loop-member-preserved
loop-member-preserved c =
    let count = ap (λ (ns : List Node). length ns) c.nodes-nodes.ensures in
    let inside : get_or c.args.members.now c.loop-member.member-index 0 < length c.args.scan.now.nodes = c.requires.members _ (Contains-get_or c.args.members.now c.loop-member.member-index 0 c.loop-member-test.true) in
    let low : get_or c.args.members.now c.loop-member.member-index 0 < length c.nodes-nodes.result.now = omega arith in
    zip_push (IsNameOf c.args.meta.now) c.args.members.now _ _ c.loop-member.member-index _ c.in_ok-name.name c.loop-member-test.true (read_at c.args.members.now c.loop-member.member-index 0 c.loop-member-test.true)
    (record { node = _; at = node_here _ _ _ _ (c.nodes-nodes.ensures ∙ c.requires.scan.nodes) low; named = c.in_ok-name.ensures }) c.loop-member.invariant c.in_ok-push.ensures.ok

pub returns : goal.returns
returns c =
    subst (λ (l : List ℕ). AllZip (IsNameOf c.args.meta.now) l c.loop-member.names) (take_all c.loop-member.member-index c.args.members.now c.loop-member-test.false) c.loop-member.invariant
