use Rattle.std.proofs.Common.{length}
use Rattle.std.proofs.lemmas.Result.{err_from_is_err_and}
use Rattle.rank_check.proofs.Conditions.{edges_inside}
use Rattle.settling_make.proofs.Validating.{makes_of}
use Rattle.settling_make.proofs.making.make_scanned.Goals as goal

pub components_of-requires : goal.components_of-requires
components_of-requires c = rw c.rows.ensures (λ a b edge. edges_inside c.args.meta.now c.args.scan.now c.requires.scan (length c.args.scan.now.rows) c.requires.scan.edges.count a b edge)

pub returns-in_err-heights : goal.returns-in_err-heights
returns-in_err-heights c =
    let why = err_from_is_err_and c.from_residual-in_err-heights.result c.from_residual-in_err-heights.ensures.1 in
    rw (why.1, why.2) (c.in_err-heights.ensures c.requires.ready)

pub returns-in_err-ended : goal.returns-in_err-ended
returns-in_err-ended c =
    let why = err_from_is_err_and c.from_residual-in_err-ended.result c.from_residual-in_err-ended.ensures.1 in
    rw (why.1, why.2) (c.in_err-ended.ensures c.requires.ready)

pub returns : goal.returns
returns c =
    makes_of c.args.meta.now c.classes-classes.ensures.sound c.edges_join_nodes.ensures c.make_parts.result c.requires.ready c.in_ok-heights.ensures.edges c.in_ok-ended.ensures.1 c.make_parts.ensures
