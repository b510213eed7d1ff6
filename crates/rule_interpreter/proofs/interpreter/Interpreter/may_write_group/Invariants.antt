use Rattle.std.proofs.Common.{take}
use Rattle.prop_bindings.specs.Calls.{AllFit}
use Rattle.machine_state.specs.Telling.{Grouped, writes_of}
use Rattle.rule_interpreter.proofs.interpreter.Interpreter.may_write_group.Given as goal

-- what the sets that were passed write is fit
abbrev pub invariant-loop-set : goal.invariant-loop-set
invariant-loop-set g l = AllFit l.self.context.meta l.world.store.tree (writes_of (Grouped (take l.set-index l.sets)))
