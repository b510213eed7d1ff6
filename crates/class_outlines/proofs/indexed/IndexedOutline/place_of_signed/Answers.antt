use Rattle.std.proofs.Common.{length}
use Rattle.class_outlines.specs.Ends.{IsSigned}
use Rattle.class_outlines.specs.Indexed.{IsCallOf}
use Rattle.name_indexes.proofs.Choices.{fails}
use Rattle.class_outlines.proofs.OneMember.{called_by}
use Rattle.name_indexes.proofs.Searches.{none_also, first_also, none_but}
use Rattle.class_outlines.proofs.indexed.IndexedOutline.place_of_signed.Goals as goal

pub returns-in_default : goal.returns-in_default
returns-in_default c =
    none_also (IsSigned c.args.sig.now) (IsCallOf c.args.sig.now.name (length c.args.sig.now.types)) c.args.self.now.methods (called_by c.args.sig.now)
    (rw c.len.ensures at c.in_default.ensures.value)

pub returns-then-is_same : goal.returns-then-is_same
returns-then-is_same c =
    first_also (IsSigned c.args.sig.now) (IsCallOf c.args.sig.now.name (length c.args.sig.now.types)) c.args.self.now.methods (called_by c.args.sig.now) _ _
    (rw c.len.ensures at c.in-Some.ensures.value) (c.is_same.ensures.0 c.if-is_same.true)

pub returns-else-is_same : goal.returns-else-is_same
returns-else-is_same c =
    none_but (IsSigned c.args.sig.now) (IsCallOf c.args.sig.now.name (length c.args.sig.now.types)) c.args.self.now.methods (called_by c.args.sig.now) _ _
    (rw c.len.ensures at c.in-Some.ensures.value) (rw c.len.ensures at c.in-Some.ensures.only) (fails _ c.is_same.ensures c.if-is_same.false)
