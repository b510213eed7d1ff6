-- What every event does to the state, whatever its effect (docs/machine.md, "Events").
use Rattle.std.specs.Prelude.{◌+◌, List, [], ◌∷◌, ◌++◌}
use Rattle.trace_entries.specs.declared.entry.Entry.{Entry}
use Rattle.trace_entries.specs.declared.entry.Entry.TheVariants as entry
use Rattle.trace_entries.specs.declared.refusal.Refusal.{Refusal}
use Rattle.trace_entries.specs.Refusals.{refusal_number}
use Rattle.machine_state.specs.State.{State}

-- entries are written down
abbrev pub with_entries : State → List Entry → State
with_entries s entries = record s { trace = s.trace ++ entries }

-- an event is taken, and its line is written down
abbrev pub accepted : State → State
accepted s = record s { events = s.events + 1; trace = s.trace ++ entry.Accepted (s.events + 1) ∷ [] }

-- a refused event leaves all else as it was
abbrev pub refused : State → Refusal → State
refused s r = record s { events = s.events + 1; trace = s.trace ++ entry.Refused (s.events + 1) (refusal_number r) ∷ [] }
