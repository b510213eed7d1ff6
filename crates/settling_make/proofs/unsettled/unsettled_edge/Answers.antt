use Rattle.std.proofs.Common.{◌≡◌, List, length, get_or, sym, ap, ◌∙◌, subst, arith}
use Rattle.effect_scan.specs.declared.node.Node.{Node}
use Rattle.rank_check.proofs.Conditions.{edges_inside}
use Rattle.settling.specs.Hands.{HandOn}
use Rattle.settling_make.proofs.Circling.{one_at, goes_round, node_here}
use Rattle.settling_make.proofs.unsettled.unsettled_edge.Goals as goal

pub offset_bounds-nodes-target : goal.offset_bounds-nodes-target
offset_bounds-nodes-target c =
    let count : length c.nodes.result.now ≡ _ = ap (λ (ns : List Node). length ns) (c.nodes.ensures ∙ c.requires.scan.nodes) in
    let inside = edges_inside c.args.meta.now c.args.scan.now c.requires.scan (length c.nodes.result.now) count c.args.number c.args.target c.requires.edge in
    omega arith

pub bounds-nodes-target : goal.bounds-nodes-target
bounds-nodes-target c =
    edges_inside c.args.meta.now c.args.scan.now c.requires.scan (length c.nodes.result.now) (ap (λ (ns : List Node). length ns) (c.nodes.ensures ∙ c.requires.scan.nodes)) c.args.number c.args.target c.requires.edge

pub returns-then-not-carries : goal.returns-then-not-carries
returns-then-not-carries c =
    let whole = c.nodes.ensures ∙ c.requires.scan.nodes in
    let inside = edges_inside c.args.meta.now c.args.scan.now c.requires.scan (length c.nodes.result.now) (ap (λ (ns : List Node). length ns) whole) c.args.number c.args.target c.requires.edge in (
      goes_round c.args.meta.now c.args.scan.now c.requires.scan c.args.found.now c.requires.found c.args.number c.args.target _ _ c.requires.edge (sym c.number.ensures ∙ c.if-number.false ∙ c.number-2.ensures) c.requires.node (node_here _ _ _ _ whole inside),
      λ h. let told = c.carries.ensures.1 h in let off = c.if-not-carries.true in cc,
    )

pub returns-then-not-hand_on : goal.returns-then-not-hand_on
returns-then-not-hand_on c =
    let whole = c.nodes.ensures ∙ c.requires.scan.nodes in
    let inside = edges_inside c.args.meta.now c.args.scan.now c.requires.scan (length c.nodes.result.now) (ap (λ (ns : List Node). length ns) whole) c.args.number c.args.target c.requires.edge in
    let round = goes_round c.args.meta.now c.args.scan.now c.requires.scan c.args.found.now c.requires.found c.args.number c.args.target c.args.node (get_or c.nodes.result.now c.args.target _) c.requires.edge (sym c.number.ensures ∙ c.if-number.false ∙ c.number-2.ensures) c.requires.node (node_here _ _ _ _ whole inside) in
    (round, λ h. let told = c.hand_on.ensures.each round.leads h in let off = c.if-not-hand_on.true in cc)

pub returns : goal.returns
returns c =
    let whole = c.nodes.ensures ∙ c.requires.scan.nodes in
    let inside = edges_inside c.args.meta.now c.args.scan.now c.requires.scan (length c.nodes.result.now) (ap (λ (ns : List Node). length ns) whole) c.args.number c.args.target c.requires.edge in
    λ y at same. (
      c.carries.ensures.0 c.if-not-carries.false,
      subst (λ (n : Node). HandOn c.args.meta.now c.args.node n) (one_at c.args.meta.now c.args.scan.now c.requires.scan _ y c.args.target (node_here _ _ _ _ whole inside) at) (c.hand_on.ensures.hands c.if-not-hand_on.false),
    )
