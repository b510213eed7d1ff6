use Rattle.std.proofs.Common.{◌∙◌, sym, subst, refl, Some, None}
use Rattle.std.proofs.lemmas.Bool.Decides.{Decides-eqb, not_from_Decides}
use Rattle.std.proofs.lemmas.Slice.Eq.{slice_eq-Decides}
use Rattle.traces.proofs.Telling.{one_word_line, event_behind, fault_behind, no_depth, depth_behind, events_of}
use Rattle.traces.specs.Lines.{TellsLine}
use Rattle.traces.proofs.reading.line.TraceLine.of.Goals as goal

pub returns-in_err-rest-clause-told : goal.returns-in_err-rest-clause-told
returns-in_err-rest-clause-told c = subst (TellsLine c.args.line.now) (sym c.from_residual.ensures) (one_word_line c.args.line.now c.cut_word.result.0.now c.cut_word.result.1 c.cut_word.ensures c.in_err-rest.was)

pub returns-then-eq-clause-told : goal.returns-then-eq-clause-told
returns-then-eq-clause-told c = event_behind c.args.line.now c.cut_word.result.0.now c.cut_word.result.1 c.cut_word.ensures c.in_ok-rest.rest c.event_line.result c.in_ok-rest.was ((slice_eq-Decides Decides-eqb _ _ _ c.eq.ensures).0 c.if-eq.true ∙ c.as_slice.ensures) c.event_line.ensures

pub returns-then-eq-clause-event : goal.returns-then-eq-clause-event
returns-then-eq-clause-event c = events_of c.args.line.now c.event_line.result (event_behind c.args.line.now c.cut_word.result.0.now c.cut_word.result.1 c.cut_word.ensures c.in_ok-rest.rest c.event_line.result c.in_ok-rest.was ((slice_eq-Decides Decides-eqb _ _ _ c.eq.ensures).0 c.if-eq.true ∙ c.as_slice.ensures) c.event_line.ensures)

pub returns-in_err-fault-clause-told : goal.returns-in_err-fault-clause-told
returns-in_err-fault-clause-told c = fault_behind c.args.line.now c.cut_word.result.0.now c.cut_word.result.1 c.cut_word.ensures c.in_ok-rest.rest None c.from_residual-in_err-fault.result c.in_ok-rest.was ((slice_eq-Decides Decides-eqb _ _ _ c.eq-2.ensures).0 c.if-eq-2.true ∙ c.as_slice-2.ensures) c.in_err-fault.ensures c.from_residual-in_err-fault.ensures

pub returns-then-eq-2-clause-told : goal.returns-then-eq-2-clause-told
returns-then-eq-2-clause-told c = fault_behind c.args.line.now c.cut_word.result.0.now c.cut_word.result.1 c.cut_word.ensures c.in_ok-rest.rest (Some c.in_ok-fault.fault) _ c.in_ok-rest.was ((slice_eq-Decides Decides-eqb _ _ _ c.eq-2.ensures).0 c.if-eq-2.true ∙ c.as_slice-2.ensures) c.in_ok-fault.ensures refl

pub returns-in_err-depth-clause-told : goal.returns-in_err-depth-clause-told
returns-in_err-depth-clause-told c = subst (TellsLine c.args.line.now) (sym c.from_residual-in_err-depth.ensures) (no_depth c.args.line.now c.cut_word.result.0.now c.cut_word.result.1 c.cut_word.ensures c.in_ok-rest.rest c.in_ok-rest.was (λ same. not_from_Decides _ (slice_eq-Decides Decides-eqb _ _ _ c.eq.ensures) c.if-eq.false (same ∙ sym c.as_slice.ensures)) (λ same. not_from_Decides _ (slice_eq-Decides Decides-eqb _ _ _ c.eq-2.ensures) c.if-eq-2.false (same ∙ sym c.as_slice-2.ensures)) c.in_err-depth.ensures)

pub returns-in_err-depth-clause-event : goal.returns-in_err-depth-clause-event
returns-in_err-depth-clause-event c = events_of c.args.line.now c.from_residual-in_err-depth.result (subst (TellsLine c.args.line.now) (sym c.from_residual-in_err-depth.ensures) (no_depth c.args.line.now c.cut_word.result.0.now c.cut_word.result.1 c.cut_word.ensures c.in_ok-rest.rest c.in_ok-rest.was (λ same. not_from_Decides _ (slice_eq-Decides Decides-eqb _ _ _ c.eq.ensures) c.if-eq.false (same ∙ sym c.as_slice.ensures)) (λ same. not_from_Decides _ (slice_eq-Decides Decides-eqb _ _ _ c.eq-2.ensures) c.if-eq-2.false (same ∙ sym c.as_slice-2.ensures)) c.in_err-depth.ensures))

pub returns-in_err-kind-clause-told : goal.returns-in_err-kind-clause-told
returns-in_err-kind-clause-told c = depth_behind c.args.line.now c.cut_word.result.0.now c.cut_word.result.1 c.cut_word.ensures c.in_ok-rest.rest c.in_ok-depth.depth None c.from_residual-in_err-kind.result c.in_ok-rest.was (λ same. not_from_Decides _ (slice_eq-Decides Decides-eqb _ _ _ c.eq.ensures) c.if-eq.false (same ∙ sym c.as_slice.ensures)) (λ same. not_from_Decides _ (slice_eq-Decides Decides-eqb _ _ _ c.eq-2.ensures) c.if-eq-2.false (same ∙ sym c.as_slice-2.ensures)) c.in_ok-depth.ensures.0 c.in_ok-depth.ensures.1 c.in_err-kind.ensures c.from_residual-in_err-kind.ensures

pub returns-clause-told : goal.returns-clause-told
returns-clause-told c = depth_behind c.args.line.now c.cut_word.result.0.now c.cut_word.result.1 c.cut_word.ensures c.in_ok-rest.rest c.in_ok-depth.depth (Some c.in_ok-kind.kind) _ c.in_ok-rest.was (λ same. not_from_Decides _ (slice_eq-Decides Decides-eqb _ _ _ c.eq.ensures) c.if-eq.false (same ∙ sym c.as_slice.ensures)) (λ same. not_from_Decides _ (slice_eq-Decides Decides-eqb _ _ _ c.eq-2.ensures) c.if-eq-2.false (same ∙ sym c.as_slice-2.ensures)) c.in_ok-depth.ensures.0 c.in_ok-depth.ensures.1 c.in_ok-kind.ensures refl
