use Rattle.std.proofs.Common.{refl, inr}
use Rattle.diagnostics.proofs.cut.tokens_or_none.Goals as goal

pub returns-in-Err-BadByte : goal.returns-in-Err-BadByte
returns-in-Err-BadByte c = inr (λ tokens cut. rw c.in-Err-BadByte.field-0-is at c.in-Err-BadByte.ensures.refused refl tokens cut, c.new.ensures)
