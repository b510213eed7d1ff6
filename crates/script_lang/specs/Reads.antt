-- What the reader answers for a text (docs/language.md, "Scripts").
use Rattle.std.specs.Prelude.{ℕ, ◌≡◌, ◌≢◌, ◌+◌, ◌≤◌, ◌<◌, List, [], ◌∷◌, length, Option, Some, None, Result, Ok, Err}
use Rattle.texts.specs.Pieces.{AreTokens}
use Rattle.texts.specs.declared.token.Token.{Token}
use Rattle.script_lang.specs.Grammar.{IsEvent}
use Rattle.texts.specs.Limits.{most_bytes}
use Rattle.texts.specs.Lines.{IsFirstLine, AreFirstLines, AreLines}
use Rattle.script_lang.specs.declared.event.Event.{Event}
use Rattle.script_lang.specs.declared.fault.LineFault.TheVariants as line
use Rattle.script_lang.specs.declared.fault.ScriptFault.{ScriptFault}
use Rattle.script_lang.specs.declared.fault.ScriptFault.TheVariants.{TooLarge, BadLine, Memory}

-- the line has no tokens: it is blank, or has only a comment
abbrev pub IsEmptyLine : List ℕ → Type 0
IsEmptyLine line = AreTokens line []

-- the line's tokens are the event
pub record IsEventLine (line : List ℕ) (event : Event) : Type 0 where
  pub tokens : List Token
  pub cut : AreTokens line tokens
  pub is_event : IsEvent tokens event

-- what is in a line: nothing, or an event
abbrev pub Holds : List ℕ → Option Event → Type 0
Holds line None = IsEmptyLine line
Holds line (Some event) = IsEventLine line event

abbrev pub before : Option Event → List Event → List Event
before None events = events
before (Some event) events = event ∷ events

-- each of the lines is empty or an event, and these are the events in their order
abbrev pub AreEvents : List (List ℕ) → List Event → Type 0
AreEvents [] events = events ≡ []
AreEvents (line ∷ lines) events =
    (found : Option Event) × (later : List Event) × Holds line found × AreEvents lines later × (events ≡ before found later)

-- the text is a script with these events
pub record IsScript (text : List ℕ) (events : List Event) : Type 0 where
  pub fits : length text ≤ most_bytes
  pub lines : List (List ℕ)
  pub cut : AreLines text lines
  pub are_events : AreEvents lines events

-- The n-th line, counted from 1, is neither empty nor an event, and each line before it is one of them.
pub record IsBadLine (text : List ℕ) (n : ℕ) : Type 0 where
  pub fits : length text ≤ most_bytes
  pub good : List (List ℕ)
  pub events : List Event
  pub are_events : AreEvents good events
  pub line : List ℕ
  pub from_line : List ℕ
  pub after : List ℕ
  pub lead : AreFirstLines text good from_line
  pub front : IsFirstLine from_line line after
  pub bad : (found : Option Event) → Holds line found → ⊥
  pub counted : n ≡ length good + 1

-- where memory is refused, nothing is said
abbrev pub ReadsScript : List ℕ → Result (List Event) ScriptFault → Type 0
ReadsScript text (Ok events) = IsScript text events
ReadsScript text (Err (BadLine n)) = IsBadLine text n
ReadsScript text (Err TooLarge) = most_bytes < length text
ReadsScript text (Err Memory) = Unit {0}

-- ---- laws

-- the line is empty or one event
abbrev pub HasOneContent : List ℕ → Type 0
HasOneContent line = (a b : Option Event) → Holds line a → Holds line b → a ≡ b

-- the text has one list of events at most
abbrev pub HasOneScript : List ℕ → Type 0
HasOneScript text = (a b : List Event) → IsScript text a → IsScript text b → a ≡ b

-- the text has one answer at most, where memory isn't refused
abbrev pub HasOneAnswer : List ℕ → Type 0
HasOneAnswer text =
    (a b : Result (List Event) ScriptFault) → ReadsScript text a → ReadsScript text b → a ≢ Err Memory → b ≢ Err Memory → a ≡ b
