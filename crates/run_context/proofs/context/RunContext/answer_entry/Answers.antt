use Rattle.std.proofs.Common.{◌++◌, [], ◌∷◌, take, sym, ap, ◌∙◌}
use Rattle.std.proofs.lemmas.List.{take_more}
use Rattle.native_slots.specs.declared.action.Action.{Action}
use Rattle.machine_rules.specs.Natives.{IsShownAs}
use Rattle.machine_rules.proofs.Answering.{zip-snoc}
use Rattle.run_context.proofs.context.RunContext.answer_entry.Goals as goal

pub loop-action-preserved : goal.loop-action-preserved
loop-action-preserved c =
    let passed = take c.loop-action.action-index c.args.actions.now in
    let more = take_more c.args.actions.now c.loop-action.action-index c.action-item.result c.loop-action-test.true ∙ ap (λ (a : Action). passed ++ a ∷ []) (sym c.action-item.is) in
    let one = zip-snoc (IsShownAs c.args.self.now.meta c.args.world.now.store.tree c.args.object c.args.effects.now) passed c.loop-action.lines.items c.action-item.result c.in_ok-line.line c.loop-action.invariant c.in_ok-line.ensures in
    rw (more, c.in_ok-push.ensures.items) one
