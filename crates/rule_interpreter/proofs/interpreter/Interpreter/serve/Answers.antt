use Rattle.std.proofs.Common.{[], sym, subst}
use Rattle.machine_state.specs.declared.world.World.{World}
use Rattle.machine_rules.specs.Reaches.{Advances}
use Rattle.rule_interpreter.proofs.interpreter.Interpreter.serve.Goals as goal

-- a sweep leaves the world as it is
pub returns : goal.returns
returns g c =
    let After : World → Type 0 = λ w. Advances c.args.self.now.context.meta (g.N.Answering.gives c.args.self.now.natives) c.args.self.now.context.depth [] c.args.world.now [] w [] c.serve_first-result.result in
    subst After (sym c.sweep.ensures) c.serve_first-result.ensures
