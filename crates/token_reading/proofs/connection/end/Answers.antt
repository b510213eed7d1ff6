use Rattle.token_reading.proofs.Connections.{end_found}
use Rattle.token_reading.proofs.connection.end.Goals as goal

pub returns-clause-reads : goal.returns-clause-reads
returns-clause-reads g c =
    let p = g.P.Part in rw c.in_ok-shared.ensures (end_found p.spell p.tree p.Ends c.args.separator c.requires c.in_ok-object.ensures.reads c.in_ok-separator.ensures.found c.in_ok-sig.ensures.reads)
