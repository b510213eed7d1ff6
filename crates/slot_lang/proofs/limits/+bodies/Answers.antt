use Rattle.std.proofs.lemmas.List.Elements.{All-nil}
use Rattle.slot_lang.proofs.FewTypes.{HasFew, one_more, all_have_few, one_has_many, other_decides, first_has_many, group_has_few}
use Rattle.slot_lang.proofs.limits.+bodies.Goals as goal

pub body_has_few_parameters-returns-then-not-statement_has_few_parameters : goal.body_has_few_parameters-returns-then-not-statement_has_few_parameters
body_has_few_parameters-returns-then-not-statement_has_few_parameters t c =
    one_has_many _ _ _ _ c.loop-statement-test.true c.statement-item.is c.if-not-statement_has_few_parameters.true c.statement_has_few_parameters.ensures

pub body_has_few_parameters-loop-statement-init : goal.body_has_few_parameters-loop-statement-init
body_has_few_parameters-loop-statement-init t c = All-nil HasFew

pub body_has_few_parameters-loop-statement-preserved : goal.body_has_few_parameters-loop-statement-preserved
body_has_few_parameters-loop-statement-preserved t c =
    one_more _ _ _ c.loop-statement-test.true c.statement-item.is c.loop-statement.invariant (c.statement_has_few_parameters.ensures.0 c.if-not-statement_has_few_parameters.false)

pub body_has_few_parameters-returns : goal.body_has_few_parameters-returns
body_has_few_parameters-returns t c = all_have_few _ _ c.loop-statement-test.false c.loop-statement.invariant

pub statement_has_few_parameters-returns-then-body_has_few_parameters : goal.statement_has_few_parameters-returns-then-body_has_few_parameters
statement_has_few_parameters-returns-then-body_has_few_parameters t c =
    let first = rw c.as_slice.ensures at (c.body_has_few_parameters.ensures.0 c.if-body_has_few_parameters.true) in
    let second = rw c.as_slice-then-body_has_few_parameters.ensures at c.body_has_few_parameters-then-body_has_few_parameters.ensures in
    rw c.in-If.is (other_decides _ _ _ _ first second)

pub statement_has_few_parameters-returns-else-body_has_few_parameters : goal.statement_has_few_parameters-returns-else-body_has_few_parameters
statement_has_few_parameters-returns-else-body_has_few_parameters t c =
    let first = rw c.as_slice.ensures at c.body_has_few_parameters.ensures in
    rw c.in-If.is (first_has_many _ _ _ _ c.if-body_has_few_parameters.false first)

pub statement_has_few_parameters-returns-in-Group : goal.statement_has_few_parameters-returns-in-Group
statement_has_few_parameters-returns-in-Group t c =
    let few = rw c.as_slice-in-Group.ensures at c.body_has_few_parameters-in-Group.ensures in
    rw c.in-Group.is (group_has_few _ _ few)
