-- When a read or a write fails, and what is so only then.
use Rattle.std.specs.Prelude.{◌≡◌, ◌≢◌, ℕ, List, [], Result, Ok, Err, MatchResult, IsErr, IsTrue}
use Rattle.command_lines.specs.declared.input.InputFault.{InputFault}
use Rattle.command_lines.specs.declared.input.InputFault.TheVariants.{Unread, Memory}
use Rattle.command_lines.specs.declared.watched.Failing.{Failing}

-- an answer is an error, or none of the bytes was taken
abbrev pub HasWriteFailed : {E : Type 0} → Result ℕ E → List ℕ → Type 0
HasWriteFailed answer bytes = MatchResult answer (λ taken. (taken ≡ 0) × (bytes ≢ [])) (λ error. Unit {0})

-- an answer is an error
abbrev pub HasReadFailed : {E : Type 0} → Result ℕ E → Type 0
HasReadFailed answer = IsErr answer

-- a read or a write failed
abbrev pub HasFailed : Failing → Type 0
HasFailed failing = IsTrue failing.is_set

-- where there is no input because a read failed, this is so
abbrev pub OnUnread : InputFault → Type 0 → Type 0
OnUnread (Unread reason) P = P
OnUnread Memory P = Unit {0}

abbrev pub IfUnread : {A : Type 0} → Result A InputFault → Type 0 → Type 0
IfUnread (Ok input) P = Unit {0}
IfUnread (Err fault) P = OnUnread fault P
