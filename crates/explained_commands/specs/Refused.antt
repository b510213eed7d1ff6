-- Refused events in a trace (docs/explanations.md, "Refused events").
use Rattle.std.specs.Prelude.{ℕ, List, Any, ⊤}
use Rattle.trace_entries.specs.declared.entry.Entry.{Entry}
use Rattle.trace_entries.specs.declared.entry.Entry.TheVariants.{Accepted, Refused, At}

-- the entry is of a refused event
abbrev pub IsRefused : Entry → Type 0
IsRefused (Accepted event) = ⊥
IsRefused (Refused event reason) = ⊤
IsRefused (At depth kind) = ⊥

-- one of the entries is
abbrev pub HasRefused : List Entry → Type 0
HasRefused trace = Any (λ entry. IsRefused entry) trace
