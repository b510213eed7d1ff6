-- What the readers of a line's parts do.
use Rattle.std.specs.Prelude.{◌≡◌, ℕ, List, ◌∷◌, Result}
use Rattle.token_reading.specs.code.Cursor.{NotAt}
use Rattle.token_reading.specs.code.Reading.{Reads, EndsAnywhere, IsAtEnd}
use Rattle.texts.specs.Numerals.{value_of}
use Rattle.token_reading.specs.declared.fault.ParseFault.{ParseFault}
use Rattle.texts.specs.declared.symbol.Symbol.TheVariants.{Open}
use Rattle.texts.specs.declared.token.Token.{Token}
use Rattle.texts.specs.declared.token.Token.TheVariants as token
use Rattle.certificate_lang.specs.declared.certificate.MemberName.{MemberName}
use Rattle.certificate_lang.specs.declared.certificate.NodeName.{NodeName}
use Rattle.certificate_lang.specs.declared.certificate.SetItem.{SetItem}
use Rattle.certificate_lang.specs.declared.certificate.Line.{Line}
use Rattle.certificate_lang.specs.declared.version.Version.{Version}
use Rattle.certificate_lang.specs.Grammar.{spell_setting, spell_member, tree_of_member, spell_node, tree_of_node, spell_item, tree_of_item, spell_line, tree_of_line}

abbrev pub ReadsSetting : List ℕ → List Token → Result ℕ ParseFault → List Token → Type 0
ReadsSetting name before result after = Reads (spell_setting name) (λ n. value_of n.digits) EndsAnywhere before result after

-- a property's name doesn't go on as a signature
abbrev pub EndsNode : List Token → Type 0
EndsNode after = NotAt Open after

abbrev pub IsAtOpen : List Token → Type 0
IsAtOpen tokens = (after : List Token) × (tokens ≡ token.Symbol Open ∷ after)

abbrev pub ReadsMember : List Token → Result MemberName ParseFault → List Token → Type 0
ReadsMember before result after = Reads spell_member tree_of_member EndsNode before result after

abbrev pub ReadsNode : List Token → Result NodeName ParseFault → List Token → Type 0
ReadsNode before result after = Reads spell_node tree_of_node EndsNode before result after

abbrev pub ReadsItem : Version → List Token → Result SetItem ParseFault → List Token → Type 0
ReadsItem version before result after = Reads (spell_item version) (tree_of_item version) EndsAnywhere before result after

-- all tokens of a line are read as a node's line
abbrev pub ReadsNodeLine : Version → List Token → Result Line ParseFault → List Token → Type 0
ReadsNodeLine version before result after = Reads (spell_line version) (tree_of_line version) IsAtEnd before result after
