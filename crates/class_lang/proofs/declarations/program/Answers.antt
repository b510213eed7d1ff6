use Rattle.std.proofs.Common.{refl}
use Rattle.std.proofs.lemmas.Result.{err_from_is_err_and}
use Rattle.class_lang.proofs.DeclarationLists.{program_step, program_stuck, program_done}
use Rattle.class_lang.proofs.Stages.{not_true}
use Rattle.class_lang.proofs.declarations.program.Goals as goal

pub returns-in_err-declaration-clause-reads : goal.returns-in_err-declaration-clause-reads
returns-in_err-declaration-clause-reads c =
    let p = err_from_is_err_and c.from_residual.result c.from_residual.ensures.1 in
    rw (p.1, p.2) (λ k. program_stuck c.loop-cursor.invariant (not_true c.loop-cursor-test.ensures) (c.in_err-declaration.ensures.reads k))

pub loop-cursor-preserved : goal.loop-cursor-preserved
loop-cursor-preserved c = rw c.in_ok-add.ensures (program_step c.loop-cursor.invariant (not_true c.loop-cursor-test.ensures) c.in_ok-declaration.ensures.reads)

pub returns-clause-reads : goal.returns-clause-reads
returns-clause-reads c = program_done c.loop-cursor.invariant (c.loop-cursor-test.ensures.0 refl)
