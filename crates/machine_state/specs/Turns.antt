-- Which event loop runs, and how a connection reaches its receiver (docs/machine.md, "Event loops"; Qt 6, "Threads and
-- QObjects", "Signals and Slots Across Threads").
use Rattle.std.specs.Prelude.{ℕ, eqb, Bool, true, false, Option}
use Rattle.std.specs.Option.{option_map_or}
use Rattle.basic_types.specs.declared.kind.Kind.{Kind}
use Rattle.basic_types.specs.declared.kind.Kind.TheVariants.{Auto, Direct, Queued}
use Rattle.machine_state.specs.declared.turn.Turn.{Turn}

-- the loop `main` is the first
abbrev pub main : ℕ
main = 0

-- the loop that runs: outside a turn it is `main`
abbrev pub running : Option Turn → ℕ
running turn = option_map_or (λ (t : Turn). t.home) turn main

-- A connection of this kind calls its receiver at once, where the receiver lives in the loop `home` and the loop `runs`
-- runs. Where it doesn't, a call is posted to the receiver's loop. Neither the sender's loop nor the moment of connecting
-- matters.
abbrev pub reaches_at_once : Kind → ℕ → ℕ → Bool
reaches_at_once Direct home runs = true
reaches_at_once Auto home runs = eqb home runs
reaches_at_once Queued home runs = false
