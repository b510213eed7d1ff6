-- What commands write of what they come to, and their exit status (docs/commands.md, "Exit status").
use Rattle.std.specs.Prelude.{◌≡◌, ℕ, List, Option, Result}
use Rattle.command_lines.specs.MetaLines.{meta_text}
use Rattle.command_lines.specs.Sent.{TakesWith}
use Rattle.program_commands.specs.declared.outcome.Outcome.{Outcome}
use Rattle.program_commands.specs.declared.outcome.Outcome.TheVariants.{Refused, Classes, Certificate, Uncertified, Valid, Settling}
use Rattle.program_commands.specs.declared.settling_commands.outcome.SettlingOutcome.{SettlingOutcome}
use Rattle.program_commands.specs.declared.settling_commands.outcome.SettlingOutcome.TheVariants as settling
use Rattle.program_commands.specs.Reasons.{reason_line, reason_status}
use Rattle.program_commands.specs.Refusals.{yes_line, memory_line, refusal_line, refusal_status}

-- the bytes of what a command on settling certificates comes to
abbrev pub settling_text : SettlingOutcome → List ℕ
settling_text (settling.Certificate p text) = text
settling_text (settling.Uncertified p why) = reason_line p why
settling_text (settling.Valid checked) = yes_line

-- its exit status
abbrev pub settling_status : SettlingOutcome → ℕ
settling_status (settling.Certificate p text) = 0
settling_status (settling.Uncertified p why) = reason_status why
settling_status (settling.Valid checked) = 0

-- the bytes of an outcome
abbrev pub outcome_text : Outcome → List ℕ
outcome_text (Refused refusal) = refusal_line refusal
outcome_text (Classes p) = meta_text p
outcome_text (Certificate certified) = certified.text
outcome_text (Uncertified p why) = reason_line p why
outcome_text (Valid checked) = yes_line
outcome_text (Settling outcome) = settling_text outcome

-- the exit status of an outcome
abbrev pub outcome_status : Outcome → ℕ
outcome_status (Refused refusal) = refusal_status refusal
outcome_status (Classes p) = 0
outcome_status (Certificate certified) = 0
outcome_status (Uncertified p why) = reason_status why
outcome_status (Valid checked) = 0
outcome_status (Settling outcome) = settling_status outcome

-- A writer took the bytes of what a command comes to, all of them where the exit status is the answer, and the first ones
-- where a write failed.
pub record WritesAs {O E : Type 0} (text : O → List ℕ) (status : O → ℕ) (ComesTo : O → Type 0) (before after : Option (List ℕ))
    (result : Result ℕ E) : Type 0 where
  pub outcome : O
  pub comes : ComesTo outcome
  pub takes : TakesWith before after (text outcome) (status outcome) result

-- A writer took the bytes of what a command that runs nothing comes to.
abbrev pub Writes : {E : Type 0} → (Outcome → Type 0) → Option (List ℕ) → Option (List ℕ) → Result ℕ E → Type 0
Writes ComesTo before after result = WritesAs outcome_text outcome_status ComesTo before after result

-- memory was wanting: `memory` is all that is written
pub record IsShortAs {O : Type 0} (text : O → List ℕ) (status : O → ℕ) (outcome : O) : Type 0 where
  pub line : text outcome ≡ memory_line
  pub status_is : status outcome ≡ 1

abbrev pub IsShort : Outcome → Type 0
IsShort outcome = IsShortAs outcome_text outcome_status outcome
