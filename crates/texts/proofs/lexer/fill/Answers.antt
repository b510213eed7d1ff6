use Rattle.std.proofs.lemmas.Result.{err_from_is_err_and}
use Rattle.texts.proofs.Cut.{cut_start, cut_token, cut_blank, cut_done, cut_stuck, at_end, not_at_end}
use Rattle.texts.proofs.lexer.fill.Goals as goal

pub loop-rest-init : goal.loop-rest-init
loop-rest-init c = rw c.clear.ensures.items (cut_start c.args.bytes.now)

pub returns-in_err-token-clause-refused : goal.returns-in_err-token-clause-refused
returns-in_err-token-clause-refused c =
    let p = err_from_is_err_and c.from_residual.result c.from_residual.ensures.1 in
    λ k. let same = p.1 in let gives = p.2 in cut_stuck c.loop-rest.invariant (not_at_end c.loop-rest.rest.now c.loop-rest-test.ensures) (c.in_err-token.ensures.cut (cc))

pub loop-rest-preserved-in_ok-add : goal.loop-rest-preserved-in_ok-add
loop-rest-preserved-in_ok-add c = rw c.in_ok-add.ensures (cut_token c.loop-rest.invariant (rw c.in-Some.is at c.in_ok-token.ensures.cut))

pub loop-rest-preserved : goal.loop-rest-preserved
loop-rest-preserved c = cut_blank c.loop-rest.invariant (rw c.in_default.is at c.in_ok-token.ensures.cut)

pub returns-clause-cut : goal.returns-clause-cut
returns-clause-cut c = cut_done c.loop-rest.invariant (at_end c.loop-rest.rest.now c.loop-rest-test.ensures)
