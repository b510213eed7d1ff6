-- The exit status of a verdict (docs/verdict.md, "Exit status").
use Rattle.std.specs.Prelude.{◌≡◌, ◌↔◌, ℕ}
use Rattle.program_commands.specs.Outcomes.{outcome_status}
use Rattle.program_commands.specs.declared.outcome.Outcome.{Outcome}

-- something that is come to has this status
pub record HasStatus (ComesTo : Outcome → Type 0) (status : ℕ) : Type 0 where
  pub outcome : Outcome
  pub comes : ComesTo outcome
  pub is : status ≡ outcome_status outcome

-- something is come to that refuses a text just where this status says so
pub record IsRefusedAs (ComesTo : Outcome → Type 0) (status : ℕ) : Type 0 where
  pub outcome : Outcome
  pub comes : ComesTo outcome
  pub is : outcome_status outcome ≡ 2 ↔ status ≡ 2
