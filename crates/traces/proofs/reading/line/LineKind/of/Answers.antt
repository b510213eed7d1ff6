use Rattle.std.proofs.Common.{◌∙◌, sym, refl, Some, None}
use Rattle.std.proofs.lemmas.Bool.Decides.{Decides-eqb, not_from_Decides}
use Rattle.std.proofs.lemmas.Slice.Eq.{slice_eq-Decides}
use Rattle.traces.proofs.Telling.{tells_refused, tells_plain}
use Rattle.traces.proofs.reading.line.LineKind.of.Goals as goal

pub returns-in_err-reason : goal.returns-in_err-reason
returns-in_err-reason c = tells_refused c.args.text.now c.cut_word.result.0.now c.cut_word.result.1 c.cut_word.ensures c.in-Some.rest None c.from_residual.result c.in-Some.is ((slice_eq-Decides Decides-eqb _ _ _ c.eq.ensures).0 c.if-eq.true ∙ c.as_slice.ensures) c.in_err-reason.ensures c.from_residual.ensures

pub returns-then-eq : goal.returns-then-eq
returns-then-eq c = tells_refused c.args.text.now c.cut_word.result.0.now c.cut_word.result.1 c.cut_word.ensures c.in-Some.rest (Some c.in_ok-reason.reason) _ c.in-Some.is ((slice_eq-Decides Decides-eqb _ _ _ c.eq.ensures).0 c.if-eq.true ∙ c.as_slice.ensures) c.in_ok-reason.ensures refl

pub returns : goal.returns
returns c = tells_plain c.args.text.now c.cut_word.result.0.now c.cut_word.result.1 c.cut_word.ensures c.in-Some.rest c.of_word.result c.in-Some.is (λ same. not_from_Decides _ (slice_eq-Decides Decides-eqb _ _ _ c.eq.ensures) c.if-eq.false (same ∙ sym c.as_slice.ensures)) c.of_word.ensures
