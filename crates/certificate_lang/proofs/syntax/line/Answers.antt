use Rattle.std.proofs.lemmas.Result.{err_from_is_err_and}
use Rattle.certificate_lang.proofs.Nodes.{no_line, line_found}
use Rattle.certificate_lang.proofs.syntax.line.Goals as goal

pub returns-in_err-destroys : goal.returns-in_err-destroys
returns-in_err-destroys c =
    let p = err_from_is_err_and c.from_residual-in_err-destroys.result c.from_residual-in_err-destroys.ensures.1 in
    rw (p.1, p.2) (λ k. no_line c.in_ok-node.ensures.reads c.in_ok-rank.ensures.reads (c.in_err-destroys.ensures k))

pub returns : goal.returns
returns c = line_found c.in_ok-node.ensures.reads c.in_ok-rank.ensures.reads c.in_ok-destroys.ensures
