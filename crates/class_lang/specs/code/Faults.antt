-- Faults of cutting and of reading tokens, as faults of the text.
use Rattle.token_reading.specs.declared.fault.ParseFault.{ParseFault}
use Rattle.token_reading.specs.declared.fault.ParseFault.TheVariants as parse
use Rattle.texts.specs.declared.lexer.LexFault.{LexFault}
use Rattle.texts.specs.declared.lexer.LexFault.TheVariants as lex
use Rattle.class_lang.specs.declared.fault.TextFault.{TextFault}
use Rattle.class_lang.specs.declared.fault.TextFault.TheVariants.{BadByte, Syntax, Memory}

-- a fault of cutting, and one of reading the tokens, as a fault of the text
abbrev pub fault_of_cutting : LexFault → TextFault
fault_of_cutting lex.BadByte = BadByte
fault_of_cutting lex.Memory = Memory

abbrev pub fault_of_parsing : ParseFault → TextFault
fault_of_parsing parse.Syntax = Syntax
fault_of_parsing parse.Memory = Memory
