use Rattle.std.proofs.Common.{ℕ, nat_lt, sym, ap, ◌∙◌}
use Rattle.object_tree.proofs.Housed.{living-dead, lifeless-dead}
use Rattle.object_tree.proofs.objects.Objects.is_dead.Goals as goal

pub returns-then-is_some : goal.returns-then-is_some
returns-then-is_some c = living-dead c.args.self.now c.args.object c.class.result c.class.ensures (sym c.is_some.ensures ∙ c.if-is_some.true)

pub returns : goal.returns
returns c =
    ap (λ (n : ℕ). nat_lt n c.len.result) c.number.ensures
    ∙ ap (nat_lt c.args.object) c.len.ensures
    ∙ lifeless-dead c.args.self.now c.args.object c.class.result c.class.ensures (sym c.is_some.ensures ∙ c.if-is_some.false)
