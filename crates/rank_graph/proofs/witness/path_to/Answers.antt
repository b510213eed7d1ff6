use Rattle.std.proofs.Common.{sym}
use Rattle.effect_scan.proofs.Containing.{has_any}
use Rattle.rank_graph.proofs.Walking.{walk_step, rank_falls, not_at_end, walked_once, edge_of}
use Rattle.rank_graph.proofs.witness.path_to.Goals as goal

pub loop-class-smaller : goal.loop-class-smaller
loop-class-smaller c = rank_falls _ _ _ _ _ c.requires.ranks c.targets_at.ensures c.in-Some.ensures.0

pub loop-class-preserved : goal.loop-class-preserved
loop-class-preserved c =
    (walk_step _ _ _ _ _ _ _ c.targets_at.ensures c.in-Some.ensures.0 c.in_ok-push-in-Some.ensures.ok c.loop-class.invariant.0, c.in-Some.ensures.1)

pub unreachable-requires : goal.unreachable-requires
unreachable-requires c =
    not_at_end _ _ _ _ _ _ _ c.requires.classes c.loop-class.invariant.1 c.row_at.ensures c.loop-class-test.ensures.value c.targets_at.ensures c.in-None.ensures

pub returns : goal.returns
returns c =
    let walk = c.loop-class.invariant.0 in
    record {
      to = c.loop-class.at;
      path = record { walk = walk; once = walked_once _ _ _ _ _ c.requires.ranks walk };
      has = edge_of _ _ _ _ c.row_at.ensures (has_any _ _ (sym c.loop-class-test.ensures.value));
    }
