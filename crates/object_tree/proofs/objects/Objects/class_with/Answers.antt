use Rattle.std.proofs.Common.{sym, ◌∙◌}
use Rattle.object_tree.proofs.Changing.{class-last, class-before}
use Rattle.object_tree.proofs.objects.Objects.class_with.Goals as goal

pub returns-then-number-len : goal.returns-then-number-len
returns-then-number-len c =
    sym (class-last c.args.self.now c.args.new c.args.object (sym c.number.ensures ∙ c.if-number-len.true ∙ c.len.ensures))

pub returns-else-number-len : goal.returns-else-number-len
returns-else-number-len c =
    c.class.ensures ∙ class-before c.args.self.now c.args.new c.args.object (λ e. c.if-number-len.false (c.number.ensures ∙ e ∙ sym c.len.ensures))
