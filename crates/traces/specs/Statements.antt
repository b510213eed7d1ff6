-- The lines of a script that have events, and which event has which (docs/traces.md, "The program trace_view"). Events are
-- counted from 1, and lines that are blank or a comment aren't.
use Rattle.std.specs.Prelude.{ℕ, zero, suc, ◌≡◌, List, [], ◌∷◌, ◌⊎◌, Option, None, slice_get}
use Rattle.std.specs.Str.{IsTrimAscii}
use Rattle.texts.specs.Lines.{AreLines}
use Rattle.diagnostics.specs.Blank.{IsBlank}

-- the line has an event, and this is the line without the white space at its two ends
pub record IsStatement (line statement : List ℕ) : Type 0 where
  pub holds : ¬ IsBlank line
  pub trimmed : IsTrimAscii line statement

-- of these lines those that have events, in their order
abbrev pub HaveStatements : List (List ℕ) → List (List ℕ) → Type 0
HaveStatements [] statements = statements ≡ []
HaveStatements (line ∷ lines) statements =
    (IsBlank line × HaveStatements lines statements)
    ⊎ ((first : List ℕ) × (later : List (List ℕ)) × IsStatement line first × (statements ≡ first ∷ later) × HaveStatements lines later)

-- the lines of the script that have events, in their order
pub record AreStatements (script : List ℕ) (statements : List (List ℕ)) : Type 0 where
  pub lines : List (List ℕ)
  pub cut : AreLines script lines
  pub have : HaveStatements lines statements

-- the line that has the event of this number
abbrev pub statement_of : List (List ℕ) → ℕ → Option (List ℕ)
statement_of statements zero = None
statement_of statements (suc before) = slice_get statements before
