use Rattle.std.proofs.Common.{◌∙◌}
use Rattle.name_indexes.proofs.Indexing.{empty_more}
use Rattle.name_indexes.proofs.call_index.grow_past.Goals as goal

pub loop-alloc-preserved : goal.loop-alloc-preserved
loop-alloc-preserved g c =
    rw (c.in_ok-push.ensures.items, c.in_ok-index.ensures) (λ k name. empty_more c.loop-alloc.indexes.items k name ∙ c.loop-alloc.invariant k name)
