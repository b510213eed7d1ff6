use Rattle.std.proofs.Common.{[]}
use Rattle.machine_rules.specs.code.Sound.{IsSoundWorld}
use Rattle.machine_rules.specs.Reaches.{Reaches}
use Rattle.rule_interpreter.proofs.interpreter.Interpreter.run_turn.Given as goal

abbrev pub invariant-loop-world : goal.invariant-loop-world
invariant-loop-world g l =
    record {
      reaches : Reaches l.self.context.meta (g.N.Answering.gives l.self.natives) l.self.context.depth [] l.fn.world [] l.world [];
      sound : IsSoundWorld l.self.context.meta l.world;
    }

abbrev pub decreases-loop-world : goal.decreases-loop-world
decreases-loop-world g l = l.world.left
