use Rattle.std.proofs.Common.{length}
use Rattle.certificate_lang.proofs.Items.{ItemsSoFar}
use Rattle.certificate_lang.proofs.syntax.read_set_items.Given as goal

abbrev pub invariant-loop-version : goal.invariant-loop-version
invariant-loop-version l = ItemsSoFar l.fn.version l.fn.cursor l.items l.cursor

abbrev pub decreases-loop-version : goal.decreases-loop-version
decreases-loop-version l = length l.cursor
