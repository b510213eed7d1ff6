-- What the reader of a line does.
use Rattle.std.specs.Prelude.{ℕ, ◌≡◌, List, Option, Result, Ok, Err}
use Rattle.token_reading.specs.declared.fault.ParseFault.{ParseFault}
use Rattle.token_reading.specs.declared.fault.ParseFault.TheVariants as parse
use Rattle.texts.specs.declared.lexer.LexFault.{LexFault}
use Rattle.texts.specs.declared.lexer.LexFault.TheVariants as lex
use Rattle.script_lang.specs.declared.event.Event.{Event}
use Rattle.script_lang.specs.declared.fault.LineFault.{LineFault}
use Rattle.script_lang.specs.declared.fault.LineFault.TheVariants as line
use Rattle.script_lang.specs.declared.fault.LineFault.TheVariants.{NoEvent}
use Rattle.script_lang.specs.Reads.{Holds}

-- a fault of cutting a line, and one of reading its tokens, as the line's
abbrev pub fault_of_cutting : LexFault → LineFault
fault_of_cutting lex.BadByte = NoEvent
fault_of_cutting lex.Memory = line.Memory

abbrev pub fault_of_parsing : ParseFault → LineFault
fault_of_parsing parse.Syntax = NoEvent
fault_of_parsing parse.Memory = line.Memory

-- what the reader answers for a line
abbrev pub ReadsLine : List ℕ → Result (Option Event) LineFault → Type 0
ReadsLine line (Ok found) = Holds line found
ReadsLine line (Err fault) = fault ≡ NoEvent → (found : Option Event) → Holds line found → ⊥
