use Rattle.std.proofs.Common.{take}
use Rattle.prop_bindings.specs.Plans.{after}
use Rattle.machine_state.specs.code.Planned.{AddsFollowers}
use Rattle.machine_state.proofs.changes.telling.Telling.add_followers.Given as goal

-- the lines of the properties that were passed were added
abbrev pub invariant-loop-place : goal.invariant-loop-place
invariant-loop-place l = AddsFollowers l.self.meta.now (after l.self.planned.now l.self.tree.now) l.self.depth (take l.place-index l.followers) l.initial.trace l.trace
