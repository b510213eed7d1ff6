use Rattle.std.proofs.Common.{sym}
use Rattle.rank_check.proofs.naming.is_class_named.Goals as goal

pub returns-in-Some : goal.returns-in-Some
returns-in-Some c = λ h. record { class = c.in-Some.found.now; is = record { is = sym c.in-Some.ensures.value }; named = c.is_same.ensures.0 h }
