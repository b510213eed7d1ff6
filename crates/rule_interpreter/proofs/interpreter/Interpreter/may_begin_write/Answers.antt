use Rattle.std.proofs.Common.{ℕ, ◌<◌, length}
use Rattle.std.proofs.lemmas.Result.{IfOk-weaker}
use Rattle.prop_bindings.specs.Changes.{one}
use Rattle.machine_rules.specs.Writing.{MayWrite}
use Rattle.rule_interpreter.proofs.interpreter.Interpreter.may_begin_write.Goals as goal

pub returns-clause-ok : goal.returns-clause-ok
returns-clause-ok g c =
    IfOk-weaker c.may_write.result (λ may. MayWrite c.args.self.now.context.meta c.args.self.now.context.depth c.args.active.now c.args.world.now.store.tree (one c.args.place.now c.args.value.now)) (λ may. length c.args.active.now < c.args.self.now.context.depth) (λ done may. may.room) c.may_write.ensures.ok
