use Rattle.std.proofs.Common.{sym, ap, ◌∙◌}
use Rattle.std.proofs.lemmas.Bool.{eqb-true}
use Rattle.rule_interpreter.specs.code.Remaining.{of_blocks}
use Rattle.rule_interpreter.proofs.Blocks.{of-last, of-empty}
use Rattle.rule_interpreter.proofs.remaining.Remaining.next.Goals as goal

pub loop-self-preserved : goal.loop-self-preserved
loop-self-preserved c =
    sym (of-last c.pop.new.self.items c.in-Some.outer)
    ∙ ap of_blocks (sym c.in-Some.ensures.items)
    ∙ of-empty c.loop-self.self-inside.block.now _ (eqb-true _ _ (sym c.is_empty.ensures ∙ c.loop-self-test.true))
    ∙ c.loop-self.invariant
