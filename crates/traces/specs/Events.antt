-- Lines of a trace that are an event's (docs/commands.md, "The trace").
use Rattle.std.specs.Prelude.{ℕ, List, ◌⊎◌, Option, Some, None}
use Rattle.traces.specs.Lines.{IsLine}
use Rattle.traces.specs.declared.reading.line.TraceLine.{TraceLine}
use Rattle.traces.specs.declared.reading.line.TraceLine.TheVariants as line

-- the line says that the event of this number was accepted, or refused for a reason
abbrev pub IsEventsLine : List ℕ → ℕ → Type 0
IsEventsLine text event = IsLine text (line.Accepted event) ⊎ ((reason : ℕ) × IsLine text (line.Refused event reason))

-- the number of the event that a line is about, if it is about one
abbrev pub event_of : Option TraceLine → Option ℕ
event_of (Some (line.Accepted event)) = Some event
event_of (Some (line.Refused event reason)) = Some event
event_of (Some (line.At depth what)) = None
event_of (Some (line.Fault fault)) = None
event_of None = None
