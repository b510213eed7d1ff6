use Rattle.std.proofs.Common.{sym, ◌∙◌}
use Rattle.effect_scan.proofs.Adding.{row_found, row_absent}
use Rattle.effect_scan.proofs.rows.targets_at.Goals as goal

pub returns-in-Some : goal.returns-in-Some
returns-in-Some c = c.as_slice.ensures ∙ row_found _ _ _ (sym c.in-Some.ensures)

pub returns-in-None : goal.returns-in-None
returns-in-None c = row_absent _ _ (sym c.in-None.ensures)
