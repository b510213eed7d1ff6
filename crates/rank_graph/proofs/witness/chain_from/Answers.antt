use Rattle.std.proofs.Common.{ℕ, ◌+◌, ◌∙◌, ap, length, arith}
use Rattle.std.proofs.lemmas.List.{length_push}
use Rattle.rank_graph.proofs.Walking.{walk_step, no_next, walked_once}
use Rattle.rank_graph.proofs.witness.chain_from.Goals as goal

pub unreachable-requires : goal.unreachable-requires
unreachable-requires c =
    let left = c.loop-edge.invariant.2 in
    no_next _ _ _ _ _ c.requires.ranks c.rank-rank.ensures (omega (arith, c.loop-edge-test.true)) c.targets_at.ensures c.in-None.ensures

pub loop-edge-preserved : goal.loop-edge-preserved
loop-edge-preserved c =
    let left = c.loop-edge.invariant.2 in
    let found = c.in-Some.ensures in (
      walk_step _ _ _ _ _ _ _ c.targets_at.ensures found.0 c.in_ok-push-in-Some.ensures.ok c.loop-edge.invariant.0,
      ap length c.in_ok-push-in-Some.ensures.ok ∙ length_push _ _ ∙ ap (λ (n : ℕ). n + 1) c.loop-edge.invariant.1,
      omega (arith, c.loop-edge-test.true, c.rank-rank.ensures, found.1),
    )

pub returns : goal.returns
returns c =
    let walk = c.loop-edge.invariant.0 in
    let long = c.loop-edge.invariant.1 in
    record {
      to = c.loop-edge.at;
      path = record { walk = walk; once = walked_once _ _ _ _ _ c.requires.ranks walk };
      edges = omega (arith, c.loop-edge-test.false, c.loop-edge.auto);
    }
