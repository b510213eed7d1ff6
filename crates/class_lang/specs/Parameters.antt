-- The grammar of parameters; those of natives are read as those of signals. A value of a type below is a way to read tokens by its rule
-- (docs/language.md, "Classes").
--
--   signal_parameter = type [Name]
--   slot_parameter   = type Name
use Rattle.std.specs.Prelude.{ℕ, List, ◌∷◌, Option, Some}
use Rattle.token_reading.specs.Signatures.{TypeReading, spell_type, tree_of_type}
use Rattle.texts.specs.declared.token.Token.{Token}
use Rattle.texts.specs.declared.token.Token.TheVariants as token
use Rattle.token_reading.specs.Optional.{spell_optional_name}
use Rattle.syntax_trees.specs.declared.program.Parameter.{Parameter}

pub data SignalParameter : Type 0 where
  signal_parameter : TypeReading → Option (List ℕ) → SignalParameter

abbrev pub spell_signal_parameter : SignalParameter → List Token → List Token
spell_signal_parameter (signal_parameter kind name) after = spell_type kind (spell_optional_name name after)

abbrev pub tree_of_signal_parameter : SignalParameter → Parameter
tree_of_signal_parameter (signal_parameter kind name) = record { kind = tree_of_type kind; name = name }

pub data SlotParameter : Type 0 where
  slot_parameter : TypeReading → (name : List ℕ) → SlotParameter

abbrev pub spell_slot_parameter : SlotParameter → List Token → List Token
spell_slot_parameter (slot_parameter kind name) after = spell_type kind (token.Name name ∷ after)

abbrev pub tree_of_slot_parameter : SlotParameter → Parameter
tree_of_slot_parameter (slot_parameter kind name) = record { kind = tree_of_type kind; name = Some name }
