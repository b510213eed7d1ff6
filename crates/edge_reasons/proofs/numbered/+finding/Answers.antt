use Rattle.std.proofs.Common.{refl, sym, subst, arith}
use Rattle.edge_reasons.specs.Order.{with_parts, in_order}
use Rattle.edge_reasons.specs.code.Finds.{Finds}
use Rattle.edge_reasons.proofs.Finding.{finds_itself, finds_group, finds_chosen, finds_otherwise, finds_here}
use Rattle.edge_reasons.proofs.numbered.+finding.Goals as goal

pub found_among-returns-in_err-left : goal.found_among-returns-in_err-left
found_among-returns-in_err-left t c =
    subst (λ r. Finds (in_order c.args.body.now) c.args.before r) (sym c.from_residual.ensures)
    (finds_here c.args.body.now _ c.statement-item.result c.loop-statement-test.true c.statement-item.is c.args.before c.loop-statement.left c.loop-statement.invariant c.in_err-left.field-0.0
    (subst (λ r. Finds (with_parts c.statement-item.result) c.loop-statement.left r) c.in_err-left.was c.found_in.ensures))

pub found_in-returns-in_default : goal.found_in-returns-in_default
found_in-returns-in_default t c = finds_itself c.args.statement.now c.args.before (omega (arith, c.in_default.ensures))

pub found_in-returns-in_err-left-in-If : goal.found_in-returns-in_err-left-in-If
found_in-returns-in_err-left-in-If t c =
    subst (λ r. Finds (with_parts c.args.statement.now) c.args.before r) (sym c.from_residual.ensures)
    (finds_chosen c.args.statement.now c.args.before c.in-Some.left (omega (arith, c.in-Some.ensures)) _ _ _ _ _ c.in-If.is c.as_slice.ensures refl c.in_err-left-in-If.field-0.0
    (subst (λ r. Finds (in_order c.as_slice.result.now) c.in-Some.left r) c.in_err-left-in-If.was c.found_among.ensures))

pub found_in-returns-in_ok-left-in-If : goal.found_in-returns-in_ok-left-in-If
found_in-returns-in_ok-left-in-If t c =
    finds_otherwise c.args.statement.now c.args.before c.in-Some.left (omega (arith, c.in-Some.ensures)) _ _ _ _ _ c.in-If.is c.as_slice.ensures c.as_slice-in-If.ensures c.in_ok-left-in-If.left c.found_among-in-If.result
    (subst (λ r. Finds (in_order c.as_slice.result.now) c.in-Some.left r) c.in_ok-left-in-If.was c.found_among.ensures) c.found_among-in-If.ensures

pub found_in-returns-in-Group : goal.found_in-returns-in-Group
found_in-returns-in-Group t c =
    finds_group c.args.statement.now c.args.before c.in-Some.left (omega (arith, c.in-Some.ensures)) _ _ c.found_among-in-Group.result c.in-Group.is c.as_slice-in-Group.ensures c.found_among-in-Group.ensures
