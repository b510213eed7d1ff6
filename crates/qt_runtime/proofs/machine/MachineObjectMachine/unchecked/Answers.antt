use Rattle.std.proofs.Common.{refl, arith}
use Rattle.qt_runtime.proofs.Keeping.{untouched-sound}
use Rattle.qt_runtime.proofs.machine.MachineObjectMachine.unchecked.Goals as goal

pub invariant_of-result : goal.invariant_of-result
invariant_of-result g c =
    rw (c.in_ok-world.ensures, c.new-2.ensures.meta, c.new-2.ensures.depth) (record { room = omega (arith, c.requires.depth.0); keeps = λ goes. untouched-sound c.args.meta c.args.steps c.classes.ensures.sound c.requires.steps.1; idle = λ e. refl })
