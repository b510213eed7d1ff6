use Rattle.rank_check.proofs.Conditions.{own_closed, in_closure}
use Rattle.settling.proofs.Passing.{match_also}
use Rattle.settling.proofs.holding.holds_own.Goals as goal

pub returns-in-Destruction : goal.returns-in-Destruction
returns-in-Destruction c =
    let classes = rw c.destroys.ensures at c.row_at.ensures in
    match_also _
    (λ h. own_closed c.args.meta.now c.args.node c.args.set.now c.args.scan.now.closures c.row_at.result.now c.requires.closures c.in-Destruction.is classes h)
    (λ own d held. own.closure c.in-Destruction.is d (in_closure c.args.meta.now c.args.node.class d c.args.scan.now.closures c.row_at.result.now c.requires.closures classes held))
    c.holds_all.ensures
