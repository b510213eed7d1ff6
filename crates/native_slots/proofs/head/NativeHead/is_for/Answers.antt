use Rattle.std.specs.Bool.{one_answer}
use Rattle.native_slots.proofs.Sameness.{is_for_decides}
use Rattle.native_slots.proofs.head.NativeHead.is_for.Goals as goal

pub returns-then-is_same-clause-value : goal.returns-then-is_same-clause-value
returns-then-is_same-clause-value c =
    one_answer _ _ (λ e. (c.is_same.ensures.0 c.if-is_same.true, c.is_same-then-is_same.ensures.0 e), λ w. c.is_same-then-is_same.ensures.1 w.1)
    (is_for_decides c.args.class.now c.args.sig.now c.args.self.now)
