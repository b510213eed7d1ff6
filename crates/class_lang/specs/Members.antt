-- The grammar of a class's members. A value of a type below is a way to read tokens by its rule
-- (docs/language.md, "Classes").
--
--   member   = "property" property | "signal" signal | "slot" slot | "native" native
--   property = type Name ["=" literal] ["notify" sig] ";"
--   signal   = Name "(" [signal_parameter {"," signal_parameter}] ")" ";"
--   slot     = Name "(" [slot_parameter {"," slot_parameter}] ")" block
use Rattle.std.specs.Prelude.{ℕ, List, [], ◌∷◌, map, Option, option_map}
use Rattle.slot_lang.specs.Grammar.{Body, spell_block, tree_of_block}
use Rattle.token_reading.specs.Lists.{spell_listed}
use Rattle.token_reading.specs.Literals.{LiteralReading, spell_literal, tree_of_literal}
use Rattle.token_reading.specs.Signatures.{TypeReading, spell_type, tree_of_type, SigReading, spell_sig, tree_of_sig}
use Rattle.texts.specs.declared.symbol.Symbol.TheVariants.{Semicolon, Assign}
use Rattle.texts.specs.declared.token.Token.{Token}
use Rattle.texts.specs.declared.token.Token.TheVariants as token
use Rattle.basic_types.specs.declared.word.Word.TheVariants as word
use Rattle.token_reading.specs.Optional.{spell_optional}
use Rattle.class_lang.specs.Natives.{NativeReading, spell_native, tree_of_native}
use Rattle.class_lang.specs.Parameters.{SignalParameter, spell_signal_parameter, tree_of_signal_parameter, SlotParameter, spell_slot_parameter, tree_of_slot_parameter}
use Rattle.class_lang.specs.declared.members.ParsedMember.{ParsedMember}
use Rattle.class_lang.specs.declared.members.ParsedMember.TheVariants as member
use Rattle.syntax_trees.specs.declared.program.Property.{Property}
use Rattle.syntax_trees.specs.declared.program.Signal.{Signal}
use Rattle.syntax_trees.specs.declared.program.Slot.{Slot}
use Rattle.syntax_trees.specs.declared.program.SlotWork.TheVariants as work

-- ["=" literal]
abbrev pub spell_initial : Option LiteralReading → List Token → List Token
spell_initial initial after = spell_optional (token.Symbol Assign) spell_literal initial after

-- ["notify" sig]
abbrev pub spell_notify : Option SigReading → List Token → List Token
spell_notify notify after = spell_optional (token.Word word.Notify) spell_sig notify after

pub data PropertyReading : Type 0 where
  property : TypeReading → (name : List ℕ) → (initial : Option LiteralReading) → (notify : Option SigReading) → PropertyReading

abbrev pub spell_property : PropertyReading → List Token → List Token
spell_property (property kind name initial notify) after =
    spell_type kind (token.Name name ∷ spell_initial initial (spell_notify notify (token.Symbol Semicolon ∷ after)))

abbrev pub tree_of_property : PropertyReading → Property
tree_of_property (property kind name initial notify) = record {
  kind = tree_of_type kind;
  name = name;
  initial = option_map tree_of_literal initial;
  notify = option_map tree_of_sig notify;
}

pub data SignalReading : Type 0 where
  signal : (name : List ℕ) → List SignalParameter → SignalReading

abbrev pub spell_signal : SignalReading → List Token → List Token
spell_signal (signal name parameters) after =
    token.Name name ∷ spell_listed spell_signal_parameter parameters (token.Symbol Semicolon ∷ after)

abbrev pub tree_of_signal : SignalReading → Signal
tree_of_signal (signal name parameters) = record { name = name; parameters = map tree_of_signal_parameter parameters }

pub data SlotReading : Type 0 where
  slot : (name : List ℕ) → List SlotParameter → (body : Body) → SlotReading

abbrev pub spell_slot : SlotReading → List Token → List Token
spell_slot (slot name parameters body) after =
    token.Name name ∷ spell_listed spell_slot_parameter parameters (spell_block body after)

abbrev pub tree_of_slot : SlotReading → Slot
tree_of_slot (slot name parameters body) =
    record { name = name; parameters = map tree_of_slot_parameter parameters; work = work.Body (tree_of_block body) }

pub data MemberReading : Type 0 where
  a_property : PropertyReading → MemberReading
  a_signal : SignalReading → MemberReading
  a_slot : SlotReading → MemberReading
  a_native : NativeReading → MemberReading

abbrev pub spell_member : MemberReading → List Token → List Token
spell_member (a_property p) after = token.Word word.Property ∷ spell_property p after
spell_member (a_signal s) after = token.Word word.Signal ∷ spell_signal s after
spell_member (a_slot s) after = token.Word word.Slot ∷ spell_slot s after
spell_member (a_native n) after = token.Word word.Native ∷ spell_native n after

abbrev pub tree_of_member : MemberReading → ParsedMember
tree_of_member (a_property p) = member.Property (tree_of_property p)
tree_of_member (a_signal s) = member.Signal (tree_of_signal s)
tree_of_member (a_slot s) = member.Slot (tree_of_slot s)
tree_of_member (a_native n) = member.Slot (tree_of_native n)

-- ---- the members of each sort, in their order; slots and natives are one sort

abbrev pub properties_in : List ParsedMember → List Property
properties_in [] = []
properties_in (member.Property p ∷ members) = p ∷ properties_in members
properties_in (member.Signal s ∷ members) = properties_in members
properties_in (member.Slot s ∷ members) = properties_in members

abbrev pub signals_in : List ParsedMember → List Signal
signals_in [] = []
signals_in (member.Property p ∷ members) = signals_in members
signals_in (member.Signal s ∷ members) = s ∷ signals_in members
signals_in (member.Slot s ∷ members) = signals_in members

abbrev pub slots_in : List ParsedMember → List Slot
slots_in [] = []
slots_in (member.Property p ∷ members) = slots_in members
slots_in (member.Signal s ∷ members) = slots_in members
slots_in (member.Slot s ∷ members) = s ∷ slots_in members
