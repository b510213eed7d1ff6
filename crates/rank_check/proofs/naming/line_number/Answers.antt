use Rattle.rank_check.proofs.Named.{there_found, there_only}
use Rattle.rank_check.proofs.naming.line_number.Goals as goal

pub returns-in-Some-clause-value : goal.returns-in-Some-clause-value
returns-in-Some-clause-value c = there_found c.args.meta.now c.classes-classes.ensures.sound c.args.name.now c.in-Some.node c.in-Some.ensures c.number.result (rw c.requires.nodes at c.number.ensures.value)

pub returns-in-Some-clause-only : goal.returns-in-Some-clause-only
returns-in-Some-clause-only c = there_only c.args.meta.now c.classes-classes.ensures.sound c.args.name.now c.in-Some.node c.in-Some.ensures c.number.result (rw c.requires.nodes at c.number.ensures.only)
