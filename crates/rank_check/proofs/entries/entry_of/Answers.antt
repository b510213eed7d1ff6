use Rattle.rank_check.proofs.entries.entry_of.Goals as goal

pub returns-in-Err : goal.returns-in-Err
returns-in-Err c = rw (c.as_slice.ensures, c.in-Err.is) at c.in_ok-destroys.ensures
