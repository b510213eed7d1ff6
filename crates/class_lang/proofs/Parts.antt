-- What may follow types, and the parts of the lists in parentheses.
use Rattle.std.proofs.Common.{◌≡◌, ℕ, List, ◌∷◌, Option, Some, None}
use Rattle.token_reading.specs.code.Reading.{EndsAnywhere}
use Rattle.token_reading.specs.code.Signatures.{EndsType}
use Rattle.texts.specs.declared.symbol.Symbol.TheVariants.{Close}
use Rattle.texts.specs.declared.token.Token.{Token}
use Rattle.texts.specs.declared.token.Token.TheVariants as token
use Rattle.token_reading.specs.code.Lists.{IsPart}
use Rattle.token_reading.proofs.Signatures.{types_are_parts}
use Rattle.token_reading.specs.Optional.{spell_optional_name}
use Rattle.class_lang.specs.Parameters.{SignalParameter, signal_parameter, spell_signal_parameter, SlotParameter, slot_parameter, spell_slot_parameter}
use Rattle.class_lang.specs.code.Members.{EndsSignalParameter}
use Rattle.class_lang.specs.Sites.{FormalReading, formal, spell_formal}

-- ---- what may follow types

pub type_ends_at_name : (name : List ℕ) (rest : List Token) → EndsType (token.Name name ∷ rest)
type_ends_at_name name rest = record { no_const = λ after e. cc; no_reference = λ after e. cc; no_pointer = λ after e. cc }

pub type_ends_at_optional_name : (name : Option (List ℕ)) (rest : List Token) → EndsType rest → EndsType (spell_optional_name name rest)
type_ends_at_optional_name None rest ends = ends
type_ends_at_optional_name (Some name) rest ends = type_ends_at_name name rest

-- ---- the parts of the lists in parentheses

signal_unclosed : (r : SignalParameter) (rest after : List Token) → spell_signal_parameter r rest ≡ token.Symbol Close ∷ after → ⊥
signal_unclosed (signal_parameter kind name) rest after e = types_are_parts.unclosed kind (spell_optional_name name rest) after e

pub signal_parameters_are_parts : IsPart spell_signal_parameter EndsSignalParameter
signal_parameters_are_parts = record {
  at_comma = λ rest. record { no_type = types_are_parts.at_comma rest; no_name = λ name after e. cc };
  at_close = λ rest. record { no_type = types_are_parts.at_close rest; no_name = λ name after e. cc };
  unclosed = signal_unclosed;
}

slot_unclosed : (r : SlotParameter) (rest after : List Token) → spell_slot_parameter r rest ≡ token.Symbol Close ∷ after → ⊥
slot_unclosed (slot_parameter kind name) rest after e = types_are_parts.unclosed kind (token.Name name ∷ rest) after e

pub slot_parameters_are_parts : IsPart spell_slot_parameter EndsAnywhere
slot_parameters_are_parts = record { at_comma = λ rest. tt; at_close = λ rest. tt; unclosed = slot_unclosed }

formal_unclosed : (r : FormalReading) (rest after : List Token) → spell_formal r rest ≡ token.Symbol Close ∷ after → ⊥
formal_unclosed (formal class name) rest after e = cc

pub formals_are_parts : IsPart spell_formal EndsAnywhere
formals_are_parts = record { at_comma = λ rest. tt; at_close = λ rest. tt; unclosed = formal_unclosed }
