-- The names that a program's text gives.
use Rattle.std.{proofs.Common.{ℕ, ◌≤◌, Bool, true, false, List, [], ◌∷◌, length, map, refl, sym, subst}, specs.List.{AllByRecursion}, proofs.lemmas.Bool.{false≢true}, proofs.lemmas.List.{length-map}, proofs.lemmas.List.Elements.{recursion_from_All}}
use Rattle.basic_types.specs.{Laws.{IsNormalType, IsNormalSig}, Normal.{pointer_type}, Signatures.{IsFreeName, most_parameters}, Types.{value_type}, declared.normal.ConstPlace.TheVariants.{Nowhere, Before, After}, declared.normal.TypeEnding.TheVariants.{Bare, Reference, Pointer}}
use Rattle.basic_types.specs.declared.word.Word.TheVariants as word
use Rattle.token_reading.specs.{Lists.{spell_each, spell_further, spell_listed}, Literals.{spell_literal}, Signatures.{TypeReading, spelled_type, spell_type, tree_of_type, spell_sig}}
use Rattle.texts.{specs.Pieces.{AreTokens, Piece, IsCut, tokens_of}, specs.declared.token.Token.{Token}, proofs.FirstPieces.{named}}
use Rattle.texts.specs.Pieces as piece
use Rattle.syntax_trees.specs.{declared.program.Parameter.{Parameter}, declared.program.Property.{Property}, declared.program.Signal.{Signal}, declared.program.Slot.{Slot}, declared.program.Class.{Class}, declared.program.Program.{Program}}
use Rattle.texts.specs.declared.symbol.Symbol.TheVariants as s
use Rattle.texts.specs.declared.token.Token.TheVariants as token
use Rattle.class_lang.specs.{Declarations.{ClassReading, class, spell_class, spell_ending, tree_of_class, DeclarationReading, a_class, a_wire, an_owns, a_site, spell_declaration, tree_of_declaration, classes_in}, Limits.{ClassHasFewParameters, SlotHasFewParameters}, Members.{MemberReading, a_property, a_signal, a_slot, a_native, property, signal, slot, spell_member, tree_of_member, properties_in, signals_in, slots_in}, Natives.{native}, Parameters.{SignalParameter, signal_parameter, spell_signal_parameter, tree_of_signal_parameter, SlotParameter, slot_parameter, spell_slot_parameter, tree_of_slot_parameter}}
use Rattle.meta_model.specs.QObject.{sig_of}
use Rattle.class_outlines.specs.Outlines.{types_of}
use Rattle.program_commands.specs.Names.{IsNamedClass, ReadProgramsAreNamed}
use Rattle.program_commands.proofs.Behind as behind

-- ---- tokens
-- a name among tokens isn't a reserved word
abbrev IsFreeToken : Token → Type 0
IsFreeToken (token.Name letters) = IsFreeName letters
IsFreeToken _ = Unit {0}

abbrev AreFree : List Token → Type 0
AreFree tokens = AllByRecursion IsFreeToken tokens

free_in_pieces : (pieces : List Piece) (bytes : List ℕ) → IsCut pieces bytes → AreFree (tokens_of pieces)
free_in_pieces [] bytes cut = tt
free_in_pieces (piece.blank b ∷ ps) bytes cut = free_in_pieces ps cut.0 cut.2
free_in_pieces (piece.comment line ∷ ps) bytes cut = free_in_pieces ps cut.0 cut.2
free_in_pieces (piece.name letters ∷ ps) bytes cut = (record { name = named letters (cut.1).0 ((cut.1).2).each; free = (cut.1).1 }, free_in_pieces ps cut.0 cut.2)
free_in_pieces (piece.reserved w ∷ ps) bytes cut = (tt, free_in_pieces ps cut.0 cut.2)
free_in_pieces (piece.number digits ∷ ps) bytes cut = (tt, free_in_pieces ps cut.0 cut.2)
free_in_pieces (piece.text inner ∷ ps) bytes cut = (tt, free_in_pieces ps cut.0 cut.2)
free_in_pieces (piece.symbol x ∷ ps) bytes cut = (tt, free_in_pieces ps cut.0 cut.2)

free_in_text : (bytes : List ℕ) (tokens : List Token) → AreTokens bytes tokens → AreFree tokens
free_in_text bytes tokens cut = subst AreFree cut.tokens_are (free_in_pieces cut.pieces bytes cut.cut)

-- ---- types
value_named : (name : List ℕ) → IsFreeName name → IsNormalType (value_type name)
value_named name free = record { named = free; const_pointer = λ e. absurd (false≢true e) }

pointer_named : (name : List ℕ) (constant : Bool) → IsFreeName name → IsNormalType (pointer_type name constant)
pointer_named name constant free = record { named = free; const_pointer = λ e. refl }

type_named : (r : TypeReading) (after : List Token) → AreFree (spell_type r after) → IsNormalType (tree_of_type r)
type_named (spelled_type Nowhere name Bare) after h = value_named name h.0
type_named (spelled_type Before name Bare) after h = value_named name h.1.0
type_named (spelled_type After name Bare) after h = value_named name h.0
type_named (spelled_type Nowhere name Reference) after h = value_named name h.0
type_named (spelled_type Before name Reference) after h = value_named name h.1.0
type_named (spelled_type After name Reference) after h = value_named name h.0
type_named (spelled_type Nowhere name Pointer) after h = pointer_named name false h.0
type_named (spelled_type Before name Pointer) after h = pointer_named name true h.1.0
type_named (spelled_type After name Pointer) after h = pointer_named name true h.0

-- ---- parameters
abbrev IsTyped : Parameter → Type 0
IsTyped p = IsNormalType p.kind

signal_parameter_typed : (r : SignalParameter) (after : List Token) → AreFree (spell_signal_parameter r after) → IsTyped (tree_of_signal_parameter r)
signal_parameter_typed (signal_parameter kind name) after h = type_named kind _ h

slot_parameter_typed : (r : SlotParameter) (after : List Token) → AreFree (spell_slot_parameter r after) → IsTyped (tree_of_slot_parameter r)
slot_parameter_typed (slot_parameter kind name) after h = type_named kind _ h

module _ {R : Type 0} (spell : R → List Token → List Token) (tree : R → Parameter) (is_behind : behind.IsBehind IsFreeToken spell) (typed : (r : R) (after : List Token) → AreFree (spell r after) → IsTyped (tree r)) where
  further_typed : (rs : List R) (after : List Token) → AreFree (spell_further spell rs after) → AllByRecursion IsNormalType (types_of (map tree rs))
  further_typed [] after h = tt
  further_typed (r ∷ rs) after h = (typed r _ h.1, further_typed rs after (is_behind r _ h.1))

  listed_typed : (rs : List R) (after : List Token) → AreFree (spell_listed spell rs after) → AllByRecursion IsNormalType (types_of (map tree rs))
  listed_typed [] after h = tt
  listed_typed (r ∷ rs) after h = (typed r _ h.1, further_typed rs _ (is_behind r _ h.1))

-- ---- members
-- a name and parameters, as a signal and a slot have them
record IsTypedMethod (name : List ℕ) (parameters : List Parameter) : Type 0 where
  named : IsFreeName name
  typed : AllByRecursion IsNormalType (types_of parameters)

abbrev IsTypedSignal : Signal → Type 0
IsTypedSignal x = IsTypedMethod x.name x.parameters

abbrev IsTypedSlot : Slot → Type 0
IsTypedSlot x = IsTypedMethod x.name x.parameters

abbrev IsNamedProperty : Property → Type 0
IsNamedProperty p = IsFreeName p.name

record AreTypedMembers (ms : List MemberReading) : Type 0 where
  properties : AllByRecursion IsNamedProperty (properties_in (map tree_of_member ms))
  signals : AllByRecursion IsTypedSignal (signals_in (map tree_of_member ms))
  slots : AllByRecursion IsTypedSlot (slots_in (map tree_of_member ms))

members_typed : (ms : List MemberReading) (after : List Token) → AreFree (spell_each spell_member ms after) → AreTypedMembers ms × AreFree after
members_typed [] after h = (record { properties = tt; signals = tt; slots = tt }, h)
members_typed (a_property (property kind name initial notify) ∷ ms) after h =
    let typed = behind.behind_type IsFreeToken kind _ h.1 in
    let started = behind.behind_optional IsFreeToken (token.Symbol s.Assign) spell_literal (behind.behind_literal IsFreeToken) initial _ typed.1 in
    let notified = behind.behind_optional IsFreeToken (token.Word word.Notify) spell_sig (behind.behind_sig IsFreeToken) notify _ started in
    let rest = members_typed ms after notified.1 in
    (record { properties = (typed.0, rest.0.properties); signals = rest.0.signals; slots = rest.0.slots }, rest.1)
members_typed (a_signal (signal name parameters) ∷ ms) after h =
    let typed = listed_typed spell_signal_parameter tree_of_signal_parameter (behind.behind_signal_parameter IsFreeToken) signal_parameter_typed parameters _ h.1.1 in
    let listed = behind.behind_listed IsFreeToken spell_signal_parameter (behind.behind_signal_parameter IsFreeToken) parameters _ h.1.1 in
    let rest = members_typed ms after listed.1 in
    (record { properties = rest.0.properties; signals = (record { named = h.1.0; typed = typed }, rest.0.signals); slots = rest.0.slots }, rest.1)
members_typed (a_slot (slot name parameters body) ∷ ms) after h =
    let typed = listed_typed spell_slot_parameter tree_of_slot_parameter (behind.behind_slot_parameter IsFreeToken) slot_parameter_typed parameters _ h.1.1 in
    let listed = behind.behind_listed IsFreeToken spell_slot_parameter (behind.behind_slot_parameter IsFreeToken) parameters _ h.1.1 in
    let rest = members_typed ms after (behind.behind_block IsFreeToken body _ listed) in
    (record { properties = rest.0.properties; signals = rest.0.signals; slots = (record { named = h.1.0; typed = typed }, rest.0.slots) }, rest.1)
members_typed (a_native (native name parameters given) ∷ ms) after h =
    let typed = listed_typed spell_signal_parameter tree_of_signal_parameter (behind.behind_signal_parameter IsFreeToken) signal_parameter_typed parameters _ h.1.1 in
    let listed = behind.behind_listed IsFreeToken spell_signal_parameter (behind.behind_signal_parameter IsFreeToken) parameters _ h.1.1 in
    let rest = members_typed ms after (behind.behind_effects IsFreeToken given _ listed) in
    (record { properties = rest.0.properties; signals = rest.0.signals; slots = (record { named = h.1.0; typed = typed }, rest.0.slots) }, rest.1)

-- ---- classes
record IsTypedClass (c : Class) : Type 0 where
  named : IsFreeName c.name
  properties : AllByRecursion IsNamedProperty c.properties
  signals : AllByRecursion IsTypedSignal c.signals
  slots : AllByRecursion IsTypedSlot c.slots

class_typed : (r : ClassReading) (after : List Token) → AreFree (spell_class r after) → IsTypedClass (tree_of_class r) × AreFree after
class_typed (class name base members ending) after h =
    let based = behind.behind_base IsFreeToken base _ h.1 in
    let typed = members_typed members (token.Symbol s.CloseBrace ∷ spell_ending ending after) based.1 in (
      record { named = h.0; properties = typed.0.properties; signals = typed.0.signals; slots = typed.0.slots },
      behind.behind_class_ending IsFreeToken ending after typed.1.1,
    )

declarations_typed : (ds : List DeclarationReading) → AreFree (spell_each spell_declaration ds []) → AllByRecursion IsTypedClass (classes_in (map tree_of_declaration ds))
declarations_typed [] h = tt
declarations_typed (a_class c ∷ ds) h = let typed = class_typed c _ h.1 in (typed.0, declarations_typed ds typed.1)
declarations_typed (a_wire w ∷ ds) h = declarations_typed ds (behind.behind_wire IsFreeToken w _ h.1)
declarations_typed (an_owns o ∷ ds) h = declarations_typed ds (behind.behind_owns IsFreeToken o _ h.1)
declarations_typed (a_site x ∷ ds) h = declarations_typed ds (behind.behind_site IsFreeToken x _ h.1)

-- ---- limits
method_normal : (name : List ℕ) (parameters : List Parameter) → IsTypedMethod name parameters → length parameters ≤ most_parameters → IsNormalSig (sig_of name (types_of parameters))
method_normal name parameters typed few =
    record { named = typed.named; types = typed.typed; few = subst (λ (n : ℕ). n ≤ most_parameters) (sym (length-map parameters (λ (p : Parameter). p.kind))) few }

signals_normal : (xs : List Signal) → AllByRecursion IsTypedSignal xs → AllByRecursion (λ x. length x.parameters ≤ most_parameters) xs → AllByRecursion (λ (x : Signal). IsNormalSig (sig_of x.name (types_of x.parameters))) xs
signals_normal [] typed few = tt
signals_normal (x ∷ xs) typed few = (method_normal x.name x.parameters typed.0 few.0, signals_normal xs typed.1 few.1)

slots_normal : (xs : List Slot) → AllByRecursion IsTypedSlot xs → AllByRecursion SlotHasFewParameters xs → AllByRecursion (λ (x : Slot). IsNormalSig (sig_of x.name (types_of x.parameters))) xs
slots_normal [] typed few = tt
slots_normal (x ∷ xs) typed few = (method_normal x.name x.parameters typed.0 few.0.own, slots_normal xs typed.1 few.1)

class_named : (c : Class) → IsTypedClass c → ClassHasFewParameters c → IsNamedClass c
unfolding ClassHasFewParameters
class_named c typed few = record {
  named = typed.named;
  properties = typed.properties;
  signals = signals_normal c.signals typed.signals (recursion_from_All (λ (x : Signal). length x.parameters ≤ most_parameters) c.signals few.1);
  slots = slots_normal c.slots typed.slots (recursion_from_All SlotHasFewParameters c.slots few.2);
}

classes_named : (cs : List Class) → AllByRecursion IsTypedClass cs → AllByRecursion ClassHasFewParameters cs → AllByRecursion IsNamedClass cs
classes_named [] typed few = tt
classes_named (c ∷ cs) typed few = (class_named c typed.0 few.0, classes_named cs typed.1 few.1)

pub read_is_named : ReadProgramsAreNamed
read_is_named limits text program read =
    let whole = read.text in
    let reads = whole.reads in
    let free : AreFree (spell_each spell_declaration reads.reading []) = subst AreFree reads.spelled (free_in_text text whole.tokens whole.cut) in
    let typed = declarations_typed reads.reading free in
    let classes : AllByRecursion IsTypedClass program.classes = subst (λ (p : Program). AllByRecursion IsTypedClass p.classes) reads.tree typed in
    classes_named program.classes classes (recursion_from_All ClassHasFewParameters program.classes read.few.classes)
