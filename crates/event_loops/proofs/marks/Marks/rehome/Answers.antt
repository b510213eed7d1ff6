use Rattle.std.proofs.Common.{◌∙◌}
use Rattle.event_loops.specs.code.Marks.{since_of}
use Rattle.event_loops.specs.code.Counts.{waiting_of}
use Rattle.event_loops.proofs.Counted.{at_number}
use Rattle.event_loops.proofs.marks.Marks.rehome.Goals as goal

pub loop-number-preserved : goal.loop-number-preserved
loop-number-preserved c =
    let was = c.loop-number.invariant in (
      λ q. c.set_home.ensures.kept q ∙ at_number (since_of c.loop-number.self) _ q ∙ was.0 q,
      (
        λ q. c.set_home.ensures.counts q ∙ at_number (waiting_of c.loop-number.self) _ q ∙ was.1.0 q,
        c.set_home.ensures.stale ∙ was.1.1,
      ),
    )
