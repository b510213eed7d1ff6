use Rattle.std.proofs.Common.{length, inl, inr}
use Rattle.class_outlines.specs.Ends.{IsSigned}
use Rattle.class_outlines.specs.Indexed.{IsCallOf}
use Rattle.name_indexes.proofs.Choices.{fails}
use Rattle.class_outlines.proofs.OneMember.{called_by}
use Rattle.name_indexes.proofs.Searches.{none_also, found_also, none_but}
use Rattle.class_outlines.proofs.indexed.IndexedOutline.near_signed.Goals as goal

pub returns-in_default : goal.returns-in_default
returns-in_default c = inr (
  none_also (IsSigned c.args.sig.now) (IsCallOf c.args.sig.now.name (length c.args.sig.now.types)) c.args.self.now.methods (called_by c.args.sig.now)
      (rw c.len.ensures at c.in_default.ensures.value),
  rw c.methods.ensures at c.near_name.ensures,
)

pub returns-then-is_same : goal.returns-then-is_same
returns-then-is_same c = inl (
  _,
  _,
  found_also (IsSigned c.args.sig.now) (IsCallOf c.args.sig.now.name (length c.args.sig.now.types)) c.args.self.now.methods (called_by c.args.sig.now) _ _
      (rw c.len.ensures at c.in-Some.ensures.value) (c.is_same.ensures.0 c.if-is_same.true),
  c.near_of.ensures,
)

pub returns-else-is_same : goal.returns-else-is_same
returns-else-is_same c = inr (
  none_but (IsSigned c.args.sig.now) (IsCallOf c.args.sig.now.name (length c.args.sig.now.types)) c.args.self.now.methods (called_by c.args.sig.now) _ _
      (rw c.len.ensures at c.in-Some.ensures.value) (rw c.len.ensures at c.in-Some.ensures.only) (fails _ c.is_same.ensures c.if-is_same.false),
  rw c.methods-else-is_same.ensures at c.near_name-else-is_same.ensures,
)
