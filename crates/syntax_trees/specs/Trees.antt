-- Trees to begin with (docs/language.md, "Programs").
use Rattle.std.specs.Prelude.{ℕ, List, [], Option}
use Rattle.syntax_trees.specs.declared.program.Class.{Class}

-- the class of this name and base, which declares nothing
abbrev pub without_members : List ℕ → Option (List ℕ) → Class
without_members name base = record { name = name; base = base; properties = []; signals = []; slots = [] }
