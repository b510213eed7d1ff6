use Rattle.std.proofs.Common.{length, arith, ap}
use Rattle.std.proofs.lemmas.Result.{err_from_is_err_and}
use Rattle.slot_lang.proofs.Bodies.{body_step, body_done, body_stuck, else_found, no_else_block, nothing_found, choice_found, form_reads, set_form, emit_form, call_form, if_form, connect_form, disconnect_form, delete_form, later_form, same_word, none_by_word, none_by_another, none_at_end}
use Rattle.slot_lang.proofs.body.+block.Goals as goal

-- ---- block

pub block-returns-clause-reads : goal.block-returns-clause-reads
block-returns-clause-reads t c = body_done c.loop-cursor.invariant.so_far c.loop-cursor-test.ensures.found

pub block-returns-in_err-statement-clause-reads : goal.block-returns-in_err-statement-clause-reads
block-returns-in_err-statement-clause-reads t c =
    let p = err_from_is_err_and c.from_residual-in_err-statement.result c.from_residual-in_err-statement.ensures.1 in
    let same = c.loop-cursor-test.ensures.found.0 in
    rw (p.1, p.2) (λ k. body_stuck c.loop-cursor.invariant.so_far c.loop-cursor-test.ensures.found.1 (rw same at (c.in_err-statement.ensures.reads k)))

pub block-loop-cursor-preserved : goal.block-loop-cursor-preserved
block-loop-cursor-preserved t c =
    let same = c.loop-cursor-test.ensures.found.0 in
    record {
      so_far = rw c.in_ok-push.ensures.ok (body_step c.loop-cursor.invariant.so_far c.loop-cursor-test.ensures.found.1 (rw same at c.in_ok-statement.ensures.reads));
      shorter = omega (arith, ap length same, c.in_ok-statement.ensures.shorter);
    }

-- ---- ["else" block]

pub otherwise-returns-else-eat_word-clause-reads : goal.otherwise-returns-else-eat_word-clause-reads
otherwise-returns-else-eat_word-clause-reads t c = rw (c.new.ensures, c.if-eat_word.ensures.found.0) (nothing_found c.if-eat_word.ensures.found.1)

pub otherwise-returns-in_err-body-clause-reads : goal.otherwise-returns-in_err-body-clause-reads
otherwise-returns-in_err-body-clause-reads t c =
    let p = err_from_is_err_and c.from_residual.result c.from_residual.ensures.1 in
    rw (p.1, p.2) (λ k. no_else_block c.if-eat_word.ensures.found (c.in_err-body.ensures.reads k))

pub otherwise-returns-in_ok-body-clause-reads : goal.otherwise-returns-in_ok-body-clause-reads
otherwise-returns-in_ok-body-clause-reads t c = else_found c.if-eat_word.ensures.found c.in_ok-body.ensures.reads

-- ---- what follows `if`

pub choice-returns-clause-reads : goal.choice-returns-clause-reads
choice-returns-clause-reads t c = choice_found c.in_ok-condition.ensures.reads c.in_ok-body.ensures.reads c.in_ok-other.ensures.reads

-- ---- a statement by its first token

pub statement-returns-in_err-word-clause-reads : goal.statement-returns-in_err-word-clause-reads
statement-returns-in_err-word-clause-reads t c =
    let p = err_from_is_err_and c.from_residual.result c.from_residual.ensures.1 in
    rw (p.1, p.2) (λ k. none_at_end c.in_err-word.ensures.found.1)

pub statement-returns-in_default : goal.statement-returns-in_default
statement-returns-in_default t c = record {
  reads = λ k. none_by_another c.in_ok-word.ensures.found c.in_default.not-Word c.in_default.not-Name;
  shorter = tt;
}

-- ---- behind a reserved word

pub begun_by_word-returns-in-Set-clause-reads : goal.begun_by_word-returns-in-Set-clause-reads
begun_by_word-returns-in-Set-clause-reads t c = form_reads set_form c.assignment.new.cursor c.assignment.result (same_word c.in-Set.is) c.assignment.ensures.reads

pub begun_by_word-returns-in-Emit-clause-reads : goal.begun_by_word-returns-in-Emit-clause-reads
begun_by_word-returns-in-Emit-clause-reads t c = form_reads emit_form c.emission.new.cursor c.emission.result (same_word c.in-Emit.is) c.emission.ensures.reads

pub begun_by_word-returns-in-Call-clause-reads : goal.begun_by_word-returns-in-Call-clause-reads
begun_by_word-returns-in-Call-clause-reads t c = form_reads call_form c.call.new.cursor c.call.result (same_word c.in-Call.is) c.call.ensures.reads

pub begun_by_word-returns-in-If-clause-reads : goal.begun_by_word-returns-in-If-clause-reads
begun_by_word-returns-in-If-clause-reads t c = form_reads if_form c.choice.new.cursor c.choice.result (same_word c.in-If.is) c.choice.ensures.reads

pub begun_by_word-returns-in-Connect-clause-reads : goal.begun_by_word-returns-in-Connect-clause-reads
begun_by_word-returns-in-Connect-clause-reads t c = form_reads connect_form c.connection.new.cursor c.connection.result (same_word c.in-Connect.is) c.connection.ensures.reads

pub begun_by_word-returns-in-Disconnect-clause-reads : goal.begun_by_word-returns-in-Disconnect-clause-reads
begun_by_word-returns-in-Disconnect-clause-reads t c = form_reads disconnect_form c.disconnection.new.cursor c.disconnection.result (same_word c.in-Disconnect.is) c.disconnection.ensures.reads

pub begun_by_word-returns-in-Delete-clause-reads : goal.begun_by_word-returns-in-Delete-clause-reads
begun_by_word-returns-in-Delete-clause-reads t c = form_reads delete_form c.deletion.new.cursor c.deletion.result (same_word c.in-Delete.is) c.deletion.ensures.reads

pub begun_by_word-returns-in-Later-clause-reads : goal.begun_by_word-returns-in-Later-clause-reads
begun_by_word-returns-in-Later-clause-reads t c = form_reads later_form c.later_deletion.new.cursor c.later_deletion.result (same_word c.in-Later.is) c.later_deletion.ensures.reads

pub begun_by_word-returns-in_default : goal.begun_by_word-returns-in_default
begun_by_word-returns-in_default t c =
    record {
      reads = λ k. none_by_word _ c.in_default.not-Set c.in_default.not-Emit c.in_default.not-Call c.in_default.not-If c.in_default.not-Connect c.in_default.not-Disconnect c.in_default.not-Delete c.in_default.not-Later;
      shorter = tt;
    }
