use Rattle.std.proofs.Common.{◌∙◌, sym}
use Rattle.std.proofs.lemmas.Bool.Decides.{Decides-eqb, not_from_Decides}
use Rattle.std.proofs.lemmas.Slice.Eq.{slice_eq-Decides}
use Rattle.traces.proofs.Telling.{tells_reason, other_word}
use Rattle.traces.proofs.reading.line.refusal.Goals as goal

pub returns-then-eq : goal.returns-then-eq
returns-then-eq c = tells_reason c.args.text.now c.cut_word.result.0.now c.cut_word.result.1 c.cut_word.ensures c.in_ok-rest.rest c.reason.result c.in_ok-rest.was ((slice_eq-Decides Decides-eqb _ _ _ c.eq.ensures).0 c.if-eq.true ∙ c.as_slice.ensures) c.reason.ensures

pub returns-else-eq : goal.returns-else-eq
returns-else-eq c = other_word c.args.text.now c.cut_word.result.0.now c.cut_word.result.1 c.cut_word.ensures c.in_ok-rest.rest c.in_ok-rest.was (λ same. not_from_Decides _ (slice_eq-Decides Decides-eqb _ _ _ c.eq.ensures) c.if-eq.false (same ∙ sym c.as_slice.ensures))
