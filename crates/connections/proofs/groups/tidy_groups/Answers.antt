use Rattle.connections.proofs.Stale.{Tidies-again}
use Rattle.connections.proofs.groups.tidy_groups.Goals as goal

pub loop-visited-preserved : goal.loop-visited-preserved
loop-visited-preserved g c = λ q.
    Tidies-again c.args.cells.now _ _ _ (c.loop-visited.invariant q) (c.tidy_at.ensures q)
