use Rattle.std.proofs.Common.{rules}
use Rattle.object_tree.specs.Adopting.{not_owned, cycle, other_loop}
use Rattle.object_tree.proofs.Above.{false-not, true-so}
use Rattle.object_tree.proofs.ancestors.may_adopt.Goals as goal

pub returns-then-not-owns : goal.returns-then-not-owns
returns-then-not-owns c = not_owned (false-not c.owns.ensures c.if-not-owns.true)

pub returns-then-closes_cycle : goal.returns-then-closes_cycle
returns-then-closes_cycle c = cycle (true-so c.owns.ensures c.if-not-owns.false) (true-so c.closes_cycle.ensures c.if-closes_cycle.true)

pub returns-then-ne : goal.returns-then-ne
returns-then-ne c =
    other_loop (true-so c.owns.ensures c.if-not-owns.false) (false-not c.closes_cycle.ensures c.if-closes_cycle.false) (search (rules, c.if-ne.true, c.ne.ensures))
