-- What steps come to, one after another: the first of them that fails decides (docs/commands.md, "Refusals").
use Rattle.std.specs.Prelude.{◌≡◌, Result, Ok, Err}

-- A step finds something or fails. Where it fails all comes to its fault, and no step after it is made; else to what the next
-- ones come to with what it found.
pub data First {X F R : Type 0} (Finds : Result X F → Type 0) (fault_of : F → R) (Next : X → R → Type 0) : R → Type 0 where
  fails : (fault : F) → Finds (Err fault) → First Finds fault_of Next (fault_of fault)
  goes_on : (found : X) (end : R) → Finds (Ok found) → Next found end → First Finds fault_of Next end

-- there is nothing left to do: all comes to this
abbrev pub Is : {R : Type 0} → R → R → Type 0
Is what end = end ≡ what

-- what all steps found
abbrev pub Gives : {X F : Type 0} → X → Result X F → Type 0
Gives found end = end ≡ Ok found
