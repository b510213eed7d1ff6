use Rattle.std.proofs.Common.{refl}
use Rattle.rank_check.proofs.Conditions.{own_closed, in_closure}
use Rattle.rank_check.proofs.destroys.own_mistake.Goals as goal

pub returns-in-Some : goal.returns-in-Some
returns-in-Some c =
    let closure = in_closure c.args.meta.now c.args.node.class c.in-Some.class c.args.scan.now.closures c.row_at.result.now c.requires.closures (rw c.destroys.ensures at c.row_at.ensures) c.in-Some.ensures.0 in
    (refl, c.in-Destruction.is, closure, c.in-Some.ensures.1)

pub returns-in-None : goal.returns-in-None
returns-in-None c =
    own_closed c.args.meta.now c.args.node c.args.set.now c.args.scan.now.closures c.row_at.result.now c.requires.closures c.in-Destruction.is (rw c.destroys.ensures at c.row_at.ensures) c.in-None.ensures
