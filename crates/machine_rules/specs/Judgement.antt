-- How an event, or what a statement asks for, is judged: what is found hands on to what is asked after it, and the first
-- that isn't so is the refusal (docs/machine.md, "Events").
use Rattle.std.specs.Prelude.{◌≡◌, ℕ, Result, Ok, Err}
use Rattle.trace_entries.specs.declared.refusal.Refusal.{Refusal}

-- something that has a number
pub record Numbered (X : Type 0) : Type 0 where
  pub number : ℕ
  pub it : X

abbrev pub numbered : {X : Type 0} → ℕ → X → Numbered X
numbered number it = record { number = number; it = it }

-- what is so is found; where nothing is, the event is refused
pub data Find {X : Type 0} (r : Refusal) (Is : X → Type 0) : Result X Refusal → Type 0 where
  found : {x : X} → Is x → Find r Is (Ok x)
  missing : ((x : X) → ¬ Is x) → Find r Is (Err r)

-- the event is refused unless this holds
pub data Check (r : Refusal) (Holds : Type 0) : Result (Unit {0}) Refusal → Type 0 where
  holds : Holds → Check r Holds (Ok tt)
  fails : (¬ Holds) → Check r Holds (Err r)

-- what was found is given
pub data Gives {X : Type 0} (x : X) : Result X Refusal → Type 0 where
  gives : Gives x (Ok x)

-- one that this relation tells of is given
pub data Becomes {X : Type 0} (Is : X → Type 0) : Result X Refusal → Type 0 where
  becomes : {x : X} → Is x → Becomes Is (Ok x)

infixl 10 ◌>>=◌
-- one step, and with what it gives the next
pub data ◌>>=◌ {X Y : Type 0} (First : Result X Refusal → Type 0)
    (Next : X → Result Y Refusal → Type 0) : Result Y Refusal → Type 0 where
  goes_on : (x : X) {r : Result Y Refusal} → First (Ok x) → Next x r → (First >>= Next) r
  ends : {k : Refusal} → First (Err k) → (First >>= Next) (Err k)

-- ---- parts of these, for proofs

abbrev pub Then : {X Y : Type 0} → (Result X Refusal → Type 0) → (X → Result Y Refusal → Type 0) → Result Y Refusal → Type 0
Then First Next = First >>= Next

-- nothing is so
abbrev pub NothingIs : {X : Type 0} → (X → Type 0) → Type 0
NothingIs {X} Is = (x : X) → ¬ Is x

-- a judgement has at most one answer
abbrev pub HasOneAnswer : {X : Type 0} → (Result X Refusal → Type 0) → Type 0
HasOneAnswer {X} Judged = (a b : Result X Refusal) → Judged a → Judged b → a ≡ b
