use Rattle.std.proofs.Common.{refl}
use Rattle.std.proofs.lemmas.Result.{IfOk-weaker}
use Rattle.type_check.proofs.Judging.{judges_here, judges_more, judges_itself, judges_plain, judges_group, judges_chosen, judges_other}
use Rattle.type_check.proofs.bodies.+bodies.Goals as goal

pub body_flaw-returns-in-Break : goal.body_flaw-returns-in-Break
body_flaw-returns-in-Break t c =
    let s = c.args.scope.now in
    judges_here s.meta.now s.class s.types.now c.args.body.now _ _ c.loop-statement-test.true c.statement-item.is c.args.start c.loop-statement.next c.loop-statement.invariant c.in-Break.flaw (rw c.in-Break.is at c.in_ok-flaw.ensures)

pub body_flaw-loop-statement-preserved : goal.body_flaw-loop-statement-preserved
body_flaw-loop-statement-preserved t c =
    let s = c.args.scope.now in
    judges_more s.meta.now s.class s.types.now c.args.body.now _ _ c.loop-statement-test.true c.statement-item.is c.args.start c.loop-statement.next c.loop-statement.invariant c.in-Continue.number (rw c.in-Continue.is at c.in_ok-flaw.ensures)

pub whole_flaw-returns-then-not-branch : goal.whole_flaw-returns-then-not-branch
whole_flaw-returns-then-not-branch t c =
    let s = c.args.scope.now in
    judges_itself s.meta.now s.class s.types.now c.args.statement.now c.args.start c.ranges.start.fits (λ typed. let on = c.in_ok-is_typed.ensures.1 typed in cc)

pub whole_flaw-returns-in-Break : goal.whole_flaw-returns-in-Break
whole_flaw-returns-in-Break t c =
    let s = c.args.scope.now in
    judges_chosen s.meta.now s.class s.types.now c.args.statement.now c.args.start c.saturating_add-next.result (c.in_ok-is_typed.ensures.0 (cc)) c.saturating_add-next.ensures _ _ _ _ _ c.in-If.is c.as_slice.ensures refl c.in-Break.flaw
    (rw c.in-Break.is at c.in_ok-flaw-in-If.ensures)

pub whole_flaw-returns-in-Continue : goal.whole_flaw-returns-in-Continue
whole_flaw-returns-in-Continue t c =
    let s = c.args.scope.now in
    IfOk-weaker _ _ _
    (λ found h.
    judges_other s.meta.now s.class s.types.now c.args.statement.now c.args.start c.saturating_add-next.result (c.in_ok-is_typed.ensures.0 (cc)) c.saturating_add-next.ensures _ _ _ _ _ c.in-If.is c.as_slice.ensures c.as_slice-in-Continue.ensures c.in-Continue.number found
    (rw c.in-Continue.is at c.in_ok-flaw-in-If.ensures) h)
    c.body_flaw-in-Continue.ensures

pub whole_flaw-returns-in-Group : goal.whole_flaw-returns-in-Group
whole_flaw-returns-in-Group t c =
    let s = c.args.scope.now in
    IfOk-weaker _ _ _
    (λ found h.
    judges_group s.meta.now s.class s.types.now c.args.statement.now c.args.start c.saturating_add-next.result (c.in_ok-is_typed.ensures.0 (cc)) c.saturating_add-next.ensures _ _ c.in-Group.is c.as_slice-in-Group.ensures found h)
    c.body_flaw-in-Group.ensures

pub whole_flaw-returns-in_default : goal.whole_flaw-returns-in_default
whole_flaw-returns-in_default t c =
    let s = c.args.scope.now in
    judges_plain s.meta.now s.class s.types.now c.args.statement.now c.args.start c.saturating_add-next.result (c.in_ok-is_typed.ensures.0 (cc)) c.saturating_add-next.ensures (c.in_default.not-If, c.in_default.not-Group)
