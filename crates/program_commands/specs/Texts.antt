-- Programs with texts.
use Rattle.std.specs.Prelude.{ℕ, List}
use Rattle.meta_model.specs.Loaded.{Loaded}

-- a program, and the text of its certificate
pub record ProgramText : Type 0 where
  pub program : Loaded
  pub text : List ℕ

-- the program, and this text
abbrev pub with_text : Loaded → List ℕ → ProgramText
with_text p text = record { program = p; text = text }
