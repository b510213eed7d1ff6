use Rattle.std.proofs.Common.{◌∙◌, subst, sym}
use Rattle.diagnostics.specs.Blank.{IsBlank}
use Rattle.diagnostics.proofs.Tokens.{told_by_letter, blank_behind}
use Rattle.diagnostics.proofs.line.begins_with_word.Goals as goal

pub returns-then-is_letter : goal.returns-then-is_letter
returns-then-is_letter c = λ _ blank. told_by_letter c.in-Some.first.now c.in-Some.others.now (sym c.is_letter.ensures ∙ c.if-is_letter.true) (subst IsBlank c.in-Some.ensures.cases.0 (c.loop-first.invariant blank))

pub loop-first-preserved : goal.loop-first-preserved
loop-first-preserved c = λ blank. blank_behind c.in-Some.first.now c.in-Some.others.now (sym c.is_blank.ensures ∙ c.if-not-is_blank.false) (subst IsBlank c.in-Some.ensures.cases.0 (c.loop-first.invariant blank))
