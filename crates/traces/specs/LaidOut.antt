-- A trace beside its script, as lines for a terminal (docs/traces.md, "The program trace_view").
use Rattle.std.specs.Borrow.{Bor}
use Rattle.std.specs.Prelude.{ℕ, ◌≡◌, Bool, List, [], ◌∷◌, ◌++◌, codes, ◌⊎◌, Option, Some, None}
use Rattle.texts.specs.Lines.{AreLines}
use Rattle.traces.specs.Shown.{IsShownAs}
use Rattle.traces.specs.Events.{IsEventsLine}
use Rattle.traces.specs.Statements.{AreStatements, statement_of}

-- What is behind a line of a trace: where it is an event's that has a line of the script that line, and else nothing.
abbrev pub IsBehind : List (List ℕ) → List ℕ → List ℕ → Type 0
IsBehind statements text behind =
    ((event : ℕ) × (statement : List ℕ) × IsEventsLine text event × (statement_of statements event ≡ Some statement)
    × (behind ≡ codes "  <- " ++ statement))
    ⊎ (((event : ℕ) → IsEventsLine text event → statement_of statements event ≡ None) × (behind ≡ []))

-- a line of a trace as it is laid out: as it is shown, then what is behind it, then a newline
pub record IsLaidOutAs (colours : Bool) (statements : List (List ℕ)) (text laid_out : List ℕ) : Type 0 where
  pub shown : List ℕ
  pub behind : List ℕ
  pub is_shown : IsShownAs colours text shown
  pub is_behind : IsBehind statements text behind
  pub whole : laid_out ≡ shown ++ behind ++ 10 ∷ []

-- each of the lines once, in their order
abbrev pub AreLaidOutAs : Bool → List (List ℕ) → List (List ℕ) → List ℕ → Type 0
AreLaidOutAs colours statements [] output = output ≡ []
AreLaidOutAs colours statements (line ∷ lines) output =
    (first rest : List ℕ) × IsLaidOutAs colours statements line first × AreLaidOutAs colours statements lines rest × (output ≡ first ++ rest)

-- a trace is laid out beside the lines of a script that have events
pub record IsLaidOutBeside (colours : Bool) (statements : List (List ℕ)) (trace output : List ℕ) : Type 0 where
  pub lines : List (List ℕ)
  pub cut : AreLines trace lines
  pub laid_out : AreLaidOutAs colours statements lines output

-- a trace is laid out beside its script
pub record IsLaidOut (colours : Bool) (trace script output : List ℕ) : Type 0 where
  pub statements : List (List ℕ)
  pub of_script : AreStatements script statements
  pub beside : IsLaidOutBeside colours statements trace output

-- ---- what the code does for one line

-- what is found of the script for a line
abbrev pub FindsStatement : List (List ℕ) → List ℕ → Option (Bor (List ℕ)) → Type 0
FindsStatement statements text None = (event : ℕ) → IsEventsLine text event → statement_of statements event ≡ None
FindsStatement statements text (Some found) = (event : ℕ) × IsEventsLine text event × (statement_of statements event ≡ Some found.now)

-- what is put behind a line for what is found
abbrev pub behind_of : Option (Bor (List ℕ)) → List ℕ
behind_of None = []
behind_of (Some found) = codes "  <- " ++ found.now

-- the bytes grow by a line as it is laid out
abbrev pub LaysOutLine : Bool → List (List ℕ) → List ℕ → List ℕ → List ℕ → Type 0
LaysOutLine colours statements text before after =
    (laid_out : List ℕ) × IsLaidOutAs colours statements text laid_out × (after ≡ before ++ laid_out)
