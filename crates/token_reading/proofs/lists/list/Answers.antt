use Rattle.std.proofs.lemmas.Result.{err_from_is_err_and}
use Rattle.token_reading.proofs.Listed.{listed_none, listed_unclosed, listed_found}
use Rattle.token_reading.proofs.lists.list.Goals as goal

pub returns-in_err-parts-clause-reads : goal.returns-in_err-parts-clause-reads
returns-in_err-parts-clause-reads g c =
    let p = g.P.Part in
    let e = err_from_is_err_and c.from_residual-in_err-parts.result c.from_residual-in_err-parts.ensures.1 in
    let same = c.if-eat.ensures.found.0 in
    rw (e.1, e.2) (λ k. listed_none p.spell p.tree p.Ends c.requires c.in_ok-expect.ensures.found c.if-eat.ensures.found.1 (rw same at (c.in_err-parts.ensures.reads k)))

pub returns-in_err-expect-2-clause-reads : goal.returns-in_err-expect-2-clause-reads
returns-in_err-expect-2-clause-reads g c =
    let p = g.P.Part in
    let e = err_from_is_err_and c.from_residual-in_err-expect-2.result c.from_residual-in_err-expect-2.ensures.1 in
    let same = c.if-eat.ensures.found.0 in
    rw (e.1, e.2) (λ k. listed_unclosed p.spell p.tree p.Ends c.requires c.in_ok-expect.ensures.found c.if-eat.ensures.found.1 (rw same at c.in_ok-parts.ensures.reads) c.in_err-expect-2.ensures.found.1)

pub returns-clause-reads : goal.returns-clause-reads
returns-clause-reads g c =
    let p = g.P.Part in
    let same = c.if-eat.ensures.found.0 in
    listed_found p.spell p.tree p.Ends c.requires c.in_ok-expect.ensures.found c.if-eat.ensures.found.1 (rw same at c.in_ok-parts.ensures.reads) c.in_ok-expect-2.ensures.found
