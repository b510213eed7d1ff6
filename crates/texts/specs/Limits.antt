-- Limits that more than one reader keeps to (docs/language.md, "Limits").
use Rattle.std.specs.Prelude.{ℕ}

-- bytes of the text of a program, and of a script's
abbrev pub most_bytes : ℕ
most_bytes = 1048576

-- activations that nest in a run, and so the bound of a certificate
abbrev pub most_depth : ℕ
most_depth = 256
