use Rattle.token_reading.proofs.Connections.{ends_found}
use Rattle.token_reading.proofs.connection.both_ends.Goals as goal

pub returns-clause-reads : goal.returns-clause-reads
returns-clause-reads g c =
    let p = g.P.Part in ends_found p.spell p.tree p.Ends c.args.separator c.in_ok-sender.ensures.reads c.in_ok-separator.ensures.found c.in_ok-receiver.ensures.reads
