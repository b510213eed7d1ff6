use Rattle.std.proofs.Common.{sym, ap, ◌∙◌}
use Rattle.std.specs.Option.{option_copied}
use Rattle.program_flaws.proofs.IdleRows.{row-says, row-ends, rows-end}
use Rattle.program_flaws.proofs.warned.lineage.Lineage.is_below.Goals as goal

pub returns-in-Some-get : goal.returns-in-Some-get
returns-in-Some-get c = λ p is.
    row-says p _ is _ _ _ _ (sym c.get.ensures.value ∙ ap option_copied c.in-Some.is) (sym c.get-in-Some.ensures.value ∙ ap option_copied c.in-Some-get.is)

pub returns-in-None-get : goal.returns-in-None-get
returns-in-None-get c = λ p is. (
  λ h. absurd (cc h),
  λ below. absurd (row-ends p _ is _ _ _ (sym c.get.ensures.value ∙ ap option_copied c.in-Some.is) (sym c.get-in-Some.ensures.value ∙ ap option_copied c.in-None-get.is) below),
)

pub returns-in-None : goal.returns-in-None
returns-in-None c = λ p is. (
  λ h. absurd (cc h),
  λ below. absurd (rows-end p _ is _ _ (sym c.get.ensures.value ∙ ap option_copied c.in-None.is) below),
)
