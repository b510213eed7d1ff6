use Rattle.std.proofs.Common.{◌∙◌, sym}
use Rattle.machine_rules.specs.Judgement.{holds, fails}
use Rattle.run_context.proofs.Linking.{not-true, disconnect-refused, disconnect-made}
use Rattle.run_context.proofs.context.RunContext.disconnect.Goals as goal

pub returns-then-not-are_joined : goal.returns-then-not-are_joined
returns-then-not-are_joined c =
    let joined = rw c.kept_ends-kept.ensures at c.are_joined.ensures in
    disconnect-refused c.args.self.now.meta c.args.world.now c.note.new.self c.args.depth c.args.ends _ (rw c.kept_ends-kept.ensures at c.in_ok-names.ensures.ok) (fails (not-true _ (sym joined ∙ c.if-not-are_joined.true))) (rw c.refused.ensures at c.note.ensures)

pub returns : goal.returns
returns c =
    let joined = rw c.kept_ends-kept.ensures at c.are_joined.ensures in
    disconnect-made c.args.self.now.meta c.args.world.now c.disconnect.new.self c.args.depth c.args.ends _ (rw c.kept_ends-kept.ensures at c.in_ok-names.ensures.ok) (holds (sym joined ∙ c.if-not-are_joined.false)) (rw c.kept_ends-kept.ensures at c.disconnect.ensures)
