use Rattle.std.proofs.Common.{drop}
use Rattle.machine_state.specs.Telling.{others}
use Rattle.machine_state.specs.code.Planned.{StandFirst}
use Rattle.machine_state.proofs.changes.telling.Telling.followers.Given as goal

-- those that are left to pass stand first in what is left
abbrev pub invariant-loop-place : goal.invariant-loop-place
invariant-loop-place l = StandFirst (others l.written l.self.planned.now.changed) (drop l.place-index l.written) l.rest
