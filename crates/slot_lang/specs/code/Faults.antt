-- A fault of reading tokens, as a fault of the body.
use Rattle.slot_lang.specs.declared.fault.BodyFault.{BodyFault}
use Rattle.slot_lang.specs.declared.fault.BodyFault.TheVariants.{Syntax, Memory}
use Rattle.token_reading.specs.declared.fault.ParseFault.{ParseFault}
use Rattle.token_reading.specs.declared.fault.ParseFault.TheVariants as parse

-- a fault of reading tokens, as a fault of the body
abbrev pub fault_of_parsing : ParseFault → BodyFault
fault_of_parsing parse.Syntax = Syntax
fault_of_parsing parse.Memory = Memory
