use Rattle.rank_make.proofs.Unranked.{is_reason}
use Rattle.rank_make.proofs.making.rank_ready.Goals as goal

pub returns-in-Ok : goal.returns-in-Ok
returns-in-Ok c = (c.in_ok-judge_program.ensures, c.in-Ok.ensures)

pub returns-in-Err : goal.returns-in-Err
returns-in-Err c = is_reason c.args.meta.now c.in-Err.why c.in_ok-judge_program.ensures c.in-Err.ensures
