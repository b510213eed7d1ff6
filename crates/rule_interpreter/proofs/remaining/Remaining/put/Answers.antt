use Rattle.std.proofs.Common.{List, ◌++◌, ap, sym, ◌∙◌}
use Rattle.std.proofs.lemmas.Bool.{eqb-true}
use Rattle.meta_model.specs.declared.object.Statement.{Statement}
use Rattle.rule_interpreter.specs.code.Remaining.{of_blocks}
use Rattle.rule_interpreter.proofs.Blocks.{of-last, of-empty}
use Rattle.rule_interpreter.proofs.remaining.Remaining.put.Goals as goal

pub returns-then-is_empty-clause-ok : goal.returns-then-is_empty-clause-ok
returns-then-is_empty-clause-ok c =
    ap (λ (l : List Statement). c.args.block.now ++ l)
    (of-empty c.self.inside.block.now _ (eqb-true _ _ (sym c.is_empty.ensures ∙ c.if-is_empty.true)) ∙ c.self.view_is)

pub returns-clause-ok : goal.returns-clause-ok
returns-clause-ok c = ap (λ (l : List Statement). c.args.block.now ++ l) (ap of_blocks c.in_ok-push.ensures.items ∙ of-last c.self.inside.outer.items c.self.inside.block ∙ c.self.view_is)
