use Rattle.rank_make.proofs.ranking.rank.Goals as goal

pub returns-in-Ok : goal.returns-in-Ok
returns-in-Ok c = record { scan = c.in_ok-scan.ensures; solved = c.in-Ok.ensures }

pub returns-in-Err : goal.returns-in-Err
returns-in-Err c = c.in-Err.ensures
