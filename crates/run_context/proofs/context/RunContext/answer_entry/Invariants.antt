use Rattle.std.proofs.Common.{take}
use Rattle.machine_rules.specs.Natives.{AreShownAs}
use Rattle.run_context.proofs.context.RunContext.answer_entry.Given as goal

-- those that were passed are written down
abbrev pub invariant-loop-action : goal.invariant-loop-action
invariant-loop-action l = AreShownAs l.self.meta l.world.store.tree l.object l.effects (take l.action-index l.actions) l.lines.items
