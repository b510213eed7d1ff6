use Rattle.std.proofs.Common.{sym, subst}
use Rattle.event_loops.specs.code.Marks.{since_of, is_due}
use Rattle.event_loops.specs.code.Sure.{AreTold, is_told}
use Rattle.event_loops.proofs.Waiting.{all-without_first}
use Rattle.event_loops.proofs.queue.take_before.Goals as goal

pub trim-requires : goal.trim-requires
trim-requires c =
    subst (AreTold c.args.marks.now) (sym c.remove_before-taken.ensures.rest)
    (all-without_first (is_due (since_of c.args.marks.now) c.args.number) (is_told c.args.marks.now) c.args.items.now.items c.requires)
