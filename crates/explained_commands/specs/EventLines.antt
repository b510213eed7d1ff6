-- The lines of a script that have events (docs/language.md, "Scripts"): events are counted from 1, and lines that are
-- blank or a comment aren't.
use Rattle.std.specs.Prelude.{ℕ, ◌≡◌, ◌+◌, ◌<◌, List, [], ◌∷◌, length, Option, Some, None, ◌⊎◌}
use Rattle.texts.specs.Lines.{IsFirstLine, AreFirstLines, AreLines}
use Rattle.script_lang.specs.Reads.{IsEmptyLine}
use Rattle.explained_commands.specs.declared.reports.events.EventLine.{EventLine}

-- so many of the lines have events
abbrev pub HaveEvents : List (List ℕ) → ℕ → Type 0
HaveEvents [] n = n ≡ 0
HaveEvents (line ∷ lines) n =
    (IsEmptyLine line × HaveEvents lines n) ⊎ ((k : ℕ) × (¬ IsEmptyLine line) × (n ≡ k + 1) × HaveEvents lines k)

-- the line has an event of the script, and comes after those of the events before it
pub record IsEventLine (script : List ℕ) (event : ℕ) (found : EventLine) : Type 0 where
  pub before : List (List ℕ)
  pub from_line : List ℕ
  pub rest : List ℕ
  pub events_before : ℕ
  pub lead : AreFirstLines script before from_line
  pub counted : HaveEvents before events_before
  pub number : event ≡ events_before + 1
  pub front : IsFirstLine from_line found.line.now rest
  pub holds : ¬ IsEmptyLine found.line.now
  pub place : found.at + length from_line ≡ length script

-- the script has fewer events, or none is meant
pub record HasNoSuchEvent (script : List ℕ) (event : ℕ) : Type 0 where
  pub lines : List (List ℕ)
  pub events : ℕ
  pub cut : AreLines script lines
  pub counted : HaveEvents lines events
  pub fewer : (event ≡ 0) ⊎ (events < event)

-- the event's line, where there is one
abbrev pub FindsEvent : List ℕ → ℕ → Option EventLine → Type 0
FindsEvent script event None = HasNoSuchEvent script event
FindsEvent script event (Some found) = IsEventLine script event found
