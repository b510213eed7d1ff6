use Rattle.std.proofs.Common.{length}
use Rattle.class_outlines.specs.declared.outline.Heading.{Heading}
use Rattle.class_outlines.specs.Notifiers.{IsSignalOf}
use Rattle.class_outlines.specs.Indexed.{IsCallOf}
use Rattle.name_indexes.proofs.Choices.{fails}
use Rattle.class_outlines.proofs.OneMember.{called_by}
use Rattle.name_indexes.proofs.Searches.{none_also, first_also, none_but}
use Rattle.class_outlines.proofs.indexed.IndexedOutline.place_of_signal.Goals as goal
use Rattle.class_outlines.proofs.indexed.IndexedOutline.place_of_signal.Goals.{else-is_signal-via-then-is_signal+else-is_same, else-is_signal-via-else-is_signal}

pub returns-in_default : goal.returns-in_default
returns-in_default c =
    none_also (IsSignalOf c.args.sig.now) (IsCallOf c.args.sig.now.name (length c.args.sig.now.types)) c.args.self.now.methods (λ (h : Heading) (is : IsSignalOf c.args.sig.now h). called_by c.args.sig.now h is.0)
    (rw c.len.ensures at c.in_default.ensures.value)

pub returns-then-is_same : goal.returns-then-is_same
returns-then-is_same c =
    first_also (IsSignalOf c.args.sig.now) (IsCallOf c.args.sig.now.name (length c.args.sig.now.types)) c.args.self.now.methods (λ (h : Heading) (is : IsSignalOf c.args.sig.now h). called_by c.args.sig.now h is.0) _ _
    (rw c.len.ensures at c.in-Some.ensures.value) (c.is_same.ensures.0 c.if-is_same.true, c.is_signal.ensures.0 c.if-is_signal.true)

pub returns-else-is_signal : goal.returns-else-is_signal
returns-else-is_signal c =
    none_but (IsSignalOf c.args.sig.now) (IsCallOf c.args.sig.now.name (length c.args.sig.now.types)) c.args.self.now.methods (λ (h : Heading) (is : IsSignalOf c.args.sig.now h). called_by c.args.sig.now h is.0) _ _
    (rw c.len.ensures at c.in-Some.ensures.value) (rw c.len.ensures at c.in-Some.ensures.only)
    (elim c.else-is_signal.branch [
      | else-is_signal-via-then-is_signal+else-is_same w ↦ λ h. fails _ w.is_same.ensures w.if-is_same.false h.0
      | else-is_signal-via-else-is_signal w ↦ λ h. fails _ c.is_signal.ensures w.if-is_signal.false h.1
    ])
