-- The order of a file's sections (docs/cases.md).
use Rattle.std.specs.Prelude.{◌≤◌, List, [], ◌∷◌, All}
use Rattle.cases.specs.declared.files.section.Section.{Section}

-- the sections are in the order of their first lines
abbrev pub AreInOrder : List Section → Type 0
AreInOrder [] = Unit {0}
AreInOrder (a ∷ rest) = All (λ (b : Section). a.line ≤ b.line) rest × AreInOrder rest
