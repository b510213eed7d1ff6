-- What comes next where a run stops, and why it stops (docs/machine.md, "Faults").
use Rattle.std.specs.Prelude.{ℕ, ◌<◌, ◌≤◌, length}
use Rattle.meta_model.specs.Loaded.{Loaded}
use Rattle.prop_bindings.specs.Calls.{AllFit}
use Rattle.machine_state.specs.State.{State}
use Rattle.machine_state.specs.Telling.{Assigning, writes_of}
use Rattle.machine_rules.specs.Next.{WritesNext, WritesIll}
use Rattle.machine_rules.specs.Good.{IsWell, Spares, IsAcyclic}

-- ---- what comes next

-- what is going on writes values which are of their properties' types, and one more activation is too many
pub record WritesDeep (p : Loaded) (depth : ℕ) (s : State) : Type 0 where
  pub what : Assigning
  pub next : WritesNext s what
  pub fit : AllFit p s.objects (writes_of what)
  pub deep : depth ≤ length s.stack

-- ---- why a run stops

-- what follows gives a property or a call a value that is not of its type, and closes no chain of bindings: on one that is
-- closed values may be any
pub record GoesIll (p : Loaded) (s : State) (Follows : State → Type 0) : Type 0 where
  pub t : State
  pub follows : Follows t
  pub acyclic : IsAcyclic t
  pub ill : ¬ IsWell p s t

-- what follows lets an object die while a body of it is active, and is well but for that
pub record GoesFatal (p : Loaded) (s : State) (Follows : State → Type 0) : Type 0 where
  pub t : State
  pub follows : Follows t
  pub well : IsWell p s t
  pub fatal : ¬ Spares s t

-- what follows nests too deep, and is well but for that; a value of a wrong type that a later write of a group hides from it
-- isn't, either
pub record GoesDeep (p : Loaded) (depth : ℕ) (s : State) (Follows : State → Type 0) : Type 0 where
  pub t : State
  pub follows : Follows t
  pub well : IsWell p s t
  pub spared : Spares s t
  pub acyclic : IsAcyclic t
  pub fits : ¬ WritesIll p s
  pub deep : depth < length t.stack
