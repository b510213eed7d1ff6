-- What the readers of members do, where a parameter may end, and what a class with some members more is.
use Rattle.std.specs.Prelude.{List, Option, Result, ◌++◌, option_map}
use Rattle.token_reading.specs.{code.Reading.{Reads, EndsAnywhere}, code.Signatures.{EndsType}, Signatures.{tree_of_sig}, declared.fault.ParseFault.{ParseFault}, code.Optional.{EndsWithoutName}, code.Cursor.{NotAt, NotAtWord}, Literals.{tree_of_literal}}
use Rattle.texts.specs.{declared.token.Token.{Token}, declared.symbol.Symbol.TheVariants.{Assign}}
use Rattle.syntax_trees.specs.{declared.program.Parameter.{Parameter}, declared.program.EffectNames.{EffectNames}, declared.program.Slot.{Slot}, declared.syntax.Literal.{Literal}, declared.program.Property.{Property}, declared.program.Class.{Class}}
use Rattle.class_lang.specs.{Parameters.{spell_signal_parameter, tree_of_signal_parameter, spell_slot_parameter, tree_of_slot_parameter}, Natives.{spell_effects, tree_of_effects, spell_native, tree_of_native}, declared.members.ParsedMember.{ParsedMember}, Members.{spell_initial, spell_notify, spell_property, tree_of_property, properties_in, signals_in, slots_in}}
use Rattle.basic_types.specs.declared.word.Word.TheVariants as word
use Rattle.basic_types.specs.declared.sig.Sig.{Sig}

-- nothing comes next with which its type or its name would go on
pub record EndsSignalParameter (after : List Token) : Type 0 where
  pub no_type : EndsType after
  pub no_name : EndsWithoutName after

abbrev pub ReadsSignalParameter : List Token → Result Parameter ParseFault → List Token → Type 0
ReadsSignalParameter before result after = Reads spell_signal_parameter tree_of_signal_parameter EndsSignalParameter before result after

abbrev pub ReadsSlotParameter : List Token → Result Parameter ParseFault → List Token → Type 0
ReadsSlotParameter before result after = Reads spell_slot_parameter tree_of_slot_parameter EndsAnywhere before result after

abbrev pub ReadsEffects : List Token → Result EffectNames ParseFault → List Token → Type 0
ReadsEffects before result after = Reads spell_effects tree_of_effects EndsAnywhere before result after

abbrev pub ReadsNative : List Token → Result Slot ParseFault → List Token → Type 0
ReadsNative before result after = Reads spell_native tree_of_native EndsAnywhere before result after

abbrev pub ReadsInitial : List Token → Result (Option Literal) ParseFault → List Token → Type 0
ReadsInitial before result after = Reads spell_initial (option_map tree_of_literal) (NotAt Assign) before result after

abbrev pub ReadsNotify : List Token → Result (Option Sig) ParseFault → List Token → Type 0
ReadsNotify before result after = Reads spell_notify (option_map tree_of_sig) (NotAtWord word.Notify) before result after

abbrev pub ReadsProperty : List Token → Result Property ParseFault → List Token → Type 0
ReadsProperty before result after = Reads spell_property tree_of_property EndsAnywhere before result after

-- the class, with these members after its own
abbrev pub with_members : Class → List ParsedMember → Class
with_members class members = record {
  name = class.name;
  base = class.base;
  properties = class.properties ++ properties_in members;
  signals = class.signals ++ signals_in members;
  slots = class.slots ++ slots_in members;
}
