use Rattle.std.proofs.Common.{take}
use Rattle.prop_bindings.specs.Plans.{after}
use Rattle.machine_state.specs.code.Planned.{AddsSets}
use Rattle.machine_state.proofs.changes.telling.Telling.add_sets.Given as goal

-- the lines of the sets that were passed were added
abbrev pub invariant-loop-set : goal.invariant-loop-set
invariant-loop-set l = AddsSets l.self.meta.now (after l.self.planned.now l.self.tree.now) l.self.depth (take l.set-index l.sets) l.initial.trace l.trace
