use Rattle.std.proofs.Common.{[], ◌∷◌, refl, sym, subst}
use Rattle.edge_reasons.specs.code.Seeks.{Seeks}
use Rattle.edge_reasons.proofs.Seeking.{seeks_here, seeks_more, seeks_past, seeks_itself, seeks_plain, seeks_group, seeks_chosen, seeks_otherwise}
use Rattle.edge_reasons.proofs.reasons.ReasonSearch.+bodies.Goals as goal

pub first_among-returns-in_err-next : goal.first_among-returns-in_err-next
first_among-returns-in_err-next t c =
    let s = c.args.self.now in
    subst (λ r. Seeks s.meta.now s.class s.types.now c.args.body.now s.to c.args.start r) (sym c.from_residual.ensures)
    (seeks_here s.meta.now s.class s.types.now s.to c.args.body.now _ _ c.loop-statement-test.true c.statement-item.is c.args.start c.loop-statement.next c.in_err-next.field-0.0 c.loop-statement.invariant
    (subst (λ r. Seeks s.meta.now s.class s.types.now (c.statement-item.result ∷ []) s.to c.loop-statement.next r) c.in_err-next.was c.first_in.ensures))

pub first_among-loop-statement-preserved : goal.first_among-loop-statement-preserved
first_among-loop-statement-preserved t c =
    let s = c.args.self.now in
    seeks_more s.meta.now s.class s.types.now s.to c.args.body.now _ _ c.loop-statement-test.true c.statement-item.is c.args.start c.loop-statement.next c.in_ok-next.next c.loop-statement.invariant
    (subst (λ r. Seeks s.meta.now s.class s.types.now (c.statement-item.result ∷ []) s.to c.loop-statement.next r) c.in_ok-next.was c.first_in.ensures)

pub first_among-returns : goal.first_among-returns
first_among-returns t c =
    let s = c.args.self.now in seeks_past s.meta.now s.class s.types.now s.to c.args.body.now _ c.args.start c.loop-statement.next c.loop-statement-test.false c.loop-statement.invariant

pub first_in-returns-then-is_done_by : goal.first_in-returns-then-is_done_by
first_in-returns-then-is_done_by t c =
    let s = c.args.self.now in seeks_itself s.meta.now s.class s.types.now s.to c.args.statement.now c.args.start c.ranges.start.fits (c.is_done_by.ensures.0 c.if-is_done_by.true)

pub first_in-returns-in_err-next-in-If : goal.first_in-returns-in_err-next-in-If
first_in-returns-in_err-next-in-If t c =
    let s = c.args.self.now in
    subst (λ r. Seeks s.meta.now s.class s.types.now (c.args.statement.now ∷ []) s.to c.args.start r) (sym c.from_residual.ensures)
    (seeks_chosen s.meta.now s.class s.types.now s.to c.args.statement.now c.args.start c.saturating_add-next.result
    (λ h. let on = c.is_done_by.ensures.1 h in let off = c.if-is_done_by.false in cc) c.saturating_add-next.ensures _ _ _ _ _ c.in-If.is c.as_slice.ensures refl c.in_err-next-in-If.field-0.0
    (subst (λ r. Seeks s.meta.now s.class s.types.now c.as_slice.result.now s.to c.saturating_add-next.result r) c.in_err-next-in-If.was c.first_among.ensures))

pub first_in-returns-in_ok-next-in-If : goal.first_in-returns-in_ok-next-in-If
first_in-returns-in_ok-next-in-If t c =
    let s = c.args.self.now in
    seeks_otherwise s.meta.now s.class s.types.now s.to c.args.statement.now c.args.start c.saturating_add-next.result
    (λ h. let on = c.is_done_by.ensures.1 h in let off = c.if-is_done_by.false in cc) c.saturating_add-next.ensures _ _ _ _ _ c.in-If.is c.as_slice.ensures c.as_slice-in-If.ensures c.in_ok-next-in-If.next c.first_among-in-If.result
    (subst (λ r. Seeks s.meta.now s.class s.types.now c.as_slice.result.now s.to c.saturating_add-next.result r) c.in_ok-next-in-If.was c.first_among.ensures) c.first_among-in-If.ensures

pub first_in-returns-in-Group : goal.first_in-returns-in-Group
first_in-returns-in-Group t c =
    let s = c.args.self.now in
    seeks_group s.meta.now s.class s.types.now s.to c.args.statement.now c.args.start c.saturating_add-next.result
    (λ h. let on = c.is_done_by.ensures.1 h in let off = c.if-is_done_by.false in cc) c.saturating_add-next.ensures _ _ c.in-Group.is c.as_slice-in-Group.ensures c.first_among-in-Group.result c.first_among-in-Group.ensures

pub first_in-returns-in_default : goal.first_in-returns-in_default
first_in-returns-in_default t c =
    let s = c.args.self.now in
    seeks_plain s.meta.now s.class s.types.now s.to c.args.statement.now c.args.start c.saturating_add-next.result
    (λ h. let on = c.is_done_by.ensures.1 h in let off = c.if-is_done_by.false in cc) c.saturating_add-next.ensures (c.in_default.not-If, c.in_default.not-Group)
