use Rattle.rank_check.proofs.naming.has_sig.Goals as goal

pub returns-in-Some : goal.returns-in-Some
returns-in-Some c = λ h. record { method = c.in-Some.found.now; is = c.in-Some.ensures.value; signed = rw c.deref.ensures at c.is_same.ensures.0 h }
