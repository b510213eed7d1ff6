-- Rules that are a sequence of others.
use Rattle.std.proofs.Common.{◌≡◌, List, ◌∷◌, ℕ, sym, ◌∙◌, ap, Option, Some, None, option_map, map, Bool, true, false}
use Rattle.basic_types.specs.{declared.kind.Kind.{Kind}, declared.qtype.QType.{QType}, declared.sig.Sig.{Sig}}
use Rattle.syntax_trees.specs.{declared.syntax.Literal.{Literal}, declared.syntax.Stmt.{Stmt}, declared.program.Class.{Class}, declared.program.Owns.{Owns}, declared.program.Parameter.{Parameter}, declared.program.Property.{Property}, declared.program.Signal.{Signal}, declared.program.Site.{Site}, declared.program.Slot.{Slot}, declared.program.Wire.{Wire}}
use Rattle.basic_types.specs.declared.word.Word.TheVariants as word
use Rattle.token_reading.specs.{code.Cursor.{Eats, NotAt, NotAtWord}, Lists.{spell_listed}, Literals.{tree_of_literal}, code.Reading.{EndsAnywhere, Found}, Reading.{spell_name}, Signatures.{spell_type, tree_of_type, SigReading, spell_sig, tree_of_sig, spell_kind}, code.Signatures.{EndsType}, Optional.{spell_optional, spell_optional_name}, code.Optional.{EndsWithout, EndsWithoutName}}
use Rattle.slot_lang.specs.Grammar.{spell_block, tree_of_block}
use Rattle.texts.specs.{declared.symbol.Symbol.TheVariants.{Semicolon, Colon, Assign, OpenBrace, Arrow}, declared.token.Token.{Token}}
use Rattle.texts.specs.declared.token.Token.TheVariants as token
use Rattle.class_lang.{specs.Parameters.{SignalParameter, signal_parameter, spell_signal_parameter, tree_of_signal_parameter, SlotParameter, slot_parameter, spell_slot_parameter, tree_of_slot_parameter}, specs.code.Members.{EndsSignalParameter}, specs.Natives.{NativeReading, spell_native, tree_of_native}, specs.Members.{spell_initial, spell_notify, PropertyReading, property, spell_property, tree_of_property, SignalReading, signal, spell_signal, tree_of_signal, SlotReading, slot, spell_slot, tree_of_slot, MemberReading, a_property, a_signal, a_slot, a_native, spell_member, tree_of_member}, specs.Declarations.{Ending, bare, semicolon, spell_ending, spell_members, spell_base, ClassReading, class, spell_class, tree_of_class, class_of, EndReading, end, spell_end, tree_of_end, WireReading, wire, spell_wire, tree_of_wire, OwnsReading, owns, spell_owns, tree_of_owns, DeclarationReading, a_class, a_wire, an_owns, a_site, spell_declaration, tree_of_declaration}, specs.code.Declarations.{EndsDeclaration}, specs.Sites.{SiteReading, spell_site, tree_of_site}, proofs.Parts.{type_ends_at_name, type_ends_at_optional_name}}
use Rattle.class_lang.specs.declared.declarations.ParsedDeclaration.TheVariants as declaration
use Rattle.class_lang.specs.declared.members.ParsedMember.TheVariants as member
use Rattle.syntax_trees.specs.declared.program.SlotWork.TheVariants as work

-- ---- optional parts

module _ {R A : Type 0} (spell : R → List Token → List Token) (tree : R → A) where
  optional_only : (r : Option R) {a : A} (first : Token) (before between after rest : List Token) → before ≡ first ∷ between → Found spell tree EndsAnywhere between a after → EndsWithout first rest → before ≡ spell_optional first spell r rest → after ≡ rest
  optional_only None first before between after rest e f ends g = absurd (ends between (sym g ∙ e))
  optional_only (Some r) first before between after rest e f ends g = f.only r rest tt cc

  pub optional_found : {first : Token} {before between after : List Token} {a : A} → before ≡ first ∷ between → Found spell tree EndsAnywhere between a after → Found (spell_optional first spell) (option_map tree) (EndsWithout first) before (Some a) after
  optional_found {first} {before} {between} {after} e f =
      let s = f.spelled in
      record { reading = Some f.reading; spelled = cc; tree_is = ap Some f.tree_is; only = λ r rest ends g. optional_only r first before between after rest e f ends g }

-- ---- what begins with a type

-- an initial value's end, within a property
pub initial_ends_at_notify : (notify : Option SigReading) (rest : List Token) → NotAt Assign (spell_notify notify (token.Symbol Semicolon ∷ rest))
initial_ends_at_notify None rest after e = cc
initial_ends_at_notify (Some s) rest after e = cc

module _ {before at_name : List Token} {kind : QType} (k : Found spell_type tree_of_type EndsType before kind at_name) where
  signal_parameter_only : (r : SignalParameter) {name : Option (List ℕ)} (after rest : List Token) → Found spell_optional_name (λ n. n) EndsWithoutName at_name name after → EndsSignalParameter rest → before ≡ spell_signal_parameter r rest → after ≡ rest
  signal_parameter_only (signal_parameter t x) after rest n ends g =
      n.only x rest ends.no_name (k.only t (spell_optional_name x rest) (type_ends_at_optional_name x rest ends.no_type) g)

  pub signal_parameter_found : {name : Option (List ℕ)} {after : List Token} → Found spell_optional_name (λ n. n) EndsWithoutName at_name name after → Found spell_signal_parameter tree_of_signal_parameter EndsSignalParameter before (record { kind = kind; name = name }) after
  signal_parameter_found {name} {after} n =
      let a = k.spelled in let b = n.spelled in let x = k.tree_is in let y = n.tree_is in
      record {
        reading = signal_parameter k.reading n.reading;
        spelled = cc;
        tree_is = cc;
        only = λ r rest ends g. signal_parameter_only r after rest n ends g;
      }

  slot_parameter_only : (r : SlotParameter) {name : List ℕ} (after rest : List Token) → Found spell_name (λ n. n) EndsAnywhere at_name name after → before ≡ spell_slot_parameter r rest → after ≡ rest
  slot_parameter_only (slot_parameter t x) after rest n g = n.only x rest tt (k.only t (spell_name x rest) (type_ends_at_name x rest) g)

  pub slot_parameter_found : {name : List ℕ} {after : List Token} → Found spell_name (λ n. n) EndsAnywhere at_name name after → Found spell_slot_parameter tree_of_slot_parameter EndsAnywhere before (record { kind = kind; name = Some name }) after
  slot_parameter_found {name} {after} n =
      let a = k.spelled in let b = n.spelled in let x = k.tree_is in let y = n.tree_is in
      record {
        reading = slot_parameter k.reading n.reading;
        spelled = cc;
        tree_is = cc;
        only = λ r rest ends g. slot_parameter_only r after rest n g;
      }

  module _ {name : List ℕ} {initial : Option Literal} {notify : Option Sig} {at_initial at_notify at_end : List Token} (n : Found spell_name (λ n. n) EndsAnywhere at_name name at_initial) (i : Found spell_initial (option_map tree_of_literal) (NotAt Assign) at_initial initial at_notify) (s : Found spell_notify (option_map tree_of_sig) (NotAtWord word.Notify) at_notify notify at_end) where
    property_only : (r : PropertyReading) (after rest : List Token) → at_end ≡ token.Symbol Semicolon ∷ after → before ≡ spell_property r rest → after ≡ rest
    property_only (property t x value changed) after rest e g =
        let last = token.Symbol Semicolon ∷ rest in
        let tail = spell_initial value (spell_notify changed last) in
        let a = n.only x tail tt (k.only t (spell_name x tail) (type_ends_at_name x tail) g) in
        let b = s.only changed last (λ after f. cc) (i.only value (spell_notify changed last) (initial_ends_at_notify changed rest) a) in
        cc

    pub property_found : {after : List Token} → at_end ≡ token.Symbol Semicolon ∷ after → Found spell_property tree_of_property EndsAnywhere before (record { kind = kind; name = name; initial = initial; notify = notify }) after
    property_found {after} e =
        let a = k.spelled in let b = n.spelled in let c = i.spelled in let d = s.spelled in
        let v = k.tree_is in let x = n.tree_is in let y = i.tree_is in let z = s.tree_is in
        record {
          reading = property k.reading n.reading i.reading s.reading;
          spelled = cc;
          tree_is = cc;
          only = λ r rest ends g. property_only r after rest e g;
        }

-- ---- what begins with a name

module _ {before at_next : List Token} {name : List ℕ} (n : Found spell_name (λ n. n) EndsAnywhere before name at_next) where
  signal_only : (r : SignalReading) {parameters : List Parameter} (at_end after rest : List Token) → Found (spell_listed spell_signal_parameter) (map tree_of_signal_parameter) EndsAnywhere at_next parameters at_end → at_end ≡ token.Symbol Semicolon ∷ after → before ≡ spell_signal r rest → after ≡ rest
  signal_only (signal x ps) at_end after rest p e g =
      let s = p.only ps (token.Symbol Semicolon ∷ rest) tt (n.only x (spell_listed spell_signal_parameter ps (token.Symbol Semicolon ∷ rest)) tt g) in cc

  pub signal_found : {parameters : List Parameter} {at_end after : List Token} → Found (spell_listed spell_signal_parameter) (map tree_of_signal_parameter) EndsAnywhere at_next parameters at_end → at_end ≡ token.Symbol Semicolon ∷ after → Found spell_signal tree_of_signal EndsAnywhere before (record { name = name; parameters = parameters }) after
  signal_found {parameters} {at_end} {after} p e =
      let a = n.spelled in let b = p.spelled in let x = n.tree_is in let y = p.tree_is in
      record { reading = signal n.reading p.reading; spelled = cc; tree_is = cc; only = λ r rest ends g. signal_only r at_end after rest p e g }

  slot_only : (r : SlotReading) {parameters : List Parameter} {body : List Stmt} (at_body after rest : List Token) → Found (spell_listed spell_slot_parameter) (map tree_of_slot_parameter) EndsAnywhere at_next parameters at_body → Found spell_block tree_of_block EndsAnywhere at_body body after → before ≡ spell_slot r rest → after ≡ rest
  slot_only (slot x ps body) at_body after rest p b g =
      b.only body rest tt (p.only ps (spell_block body rest) tt (n.only x (spell_listed spell_slot_parameter ps (spell_block body rest)) tt g))

  pub slot_found : {parameters : List Parameter} {body : List Stmt} {at_body after : List Token} → Found (spell_listed spell_slot_parameter) (map tree_of_slot_parameter) EndsAnywhere at_next parameters at_body → Found spell_block tree_of_block EndsAnywhere at_body body after → Found spell_slot tree_of_slot EndsAnywhere before (record { name = name; parameters = parameters; work = work.Body body }) after
  slot_found {parameters} {body} {at_body} {after} p b =
      let a = n.spelled in let d = p.spelled in let e = b.spelled in
      let x = n.tree_is in let y = p.tree_is in let z = b.tree_is in
      record { reading = slot n.reading p.reading b.reading; spelled = cc; tree_is = cc; only = λ r rest ends g. slot_only r at_body after rest p b g }

  end_only : (r : EndReading) {s : Sig} (after rest : List Token) → Found spell_sig tree_of_sig EndsAnywhere at_next s after → before ≡ spell_end r rest → after ≡ rest
  end_only (end x s) after rest f g = f.only s rest tt (n.only x (spell_sig s rest) tt g)

  pub end_found : {s : Sig} {after : List Token} → Found spell_sig tree_of_sig EndsAnywhere at_next s after → Found spell_end tree_of_end EndsAnywhere before (name, s) after
  end_found {s} {after} f =
      let a = n.spelled in let b = f.spelled in let x = n.tree_is in let y = f.tree_is in
      record { reading = end n.reading f.reading; spelled = cc; tree_is = cc; only = λ r rest ends g. end_only r after rest f g }

  owns_only : (r : OwnsReading) {child : List ℕ} (at_end after rest : List Token) → Found spell_name (λ n. n) EndsAnywhere at_next child at_end → at_end ≡ token.Symbol Semicolon ∷ after → before ≡ spell_owns r rest → after ≡ rest
  owns_only (owns x y) at_end after rest f e g =
      let last = token.Symbol Semicolon ∷ rest in
      let a = f.only y last tt (n.only x (spell_name y last) tt g) in
      cc

  pub owns_found : {child : List ℕ} {at_end after : List Token} → Found spell_name (λ n. n) EndsAnywhere at_next child at_end → at_end ≡ token.Symbol Semicolon ∷ after → Found spell_owns tree_of_owns EndsAnywhere before (record { parent = name; child = child }) after
  owns_found {child} {at_end} {after} f e =
      let a = n.spelled in let b = f.spelled in let x = n.tree_is in let y = f.tree_is in
      record { reading = owns n.reading f.reading; spelled = cc; tree_is = cc; only = λ r rest ends g. owns_only r at_end after rest f e g }

-- ---- choices by the first word

other_than_property : (r : MemberReading) (between rest : List Token) → token.Word word.Property ∷ between ≡ spell_member r rest → (p : PropertyReading) × (between ≡ spell_property p rest)
other_than_property (a_property p) between rest g = (p, cc)
other_than_property (a_signal s) between rest g = cc
other_than_property (a_slot s) between rest g = cc
other_than_property (a_native n) between rest g = cc

pub property_member : {before between after : List Token} {p : Property} → before ≡ token.Word word.Property ∷ between → Found spell_property tree_of_property EndsAnywhere between p after → Found spell_member tree_of_member EndsAnywhere before (member.Property p) after
property_member {before} {between} {after} {p} e f =
    let a = f.spelled in
    record { reading = a_property f.reading; spelled = cc; tree_is = ap (λ x. member.Property x) f.tree_is; only = λ r rest ends g. let w = other_than_property r between rest (sym e ∙ g) in f.only w.0 rest tt w.1 }

other_than_signal : (r : MemberReading) (between rest : List Token) → token.Word word.Signal ∷ between ≡ spell_member r rest → (s : SignalReading) × (between ≡ spell_signal s rest)
other_than_signal (a_property p) between rest g = cc
other_than_signal (a_signal s) between rest g = (s, cc)
other_than_signal (a_slot s) between rest g = cc
other_than_signal (a_native n) between rest g = cc

pub signal_member : {before between after : List Token} {s : Signal} → before ≡ token.Word word.Signal ∷ between → Found spell_signal tree_of_signal EndsAnywhere between s after → Found spell_member tree_of_member EndsAnywhere before (member.Signal s) after
signal_member {before} {between} {after} {s} e f =
    let a = f.spelled in
    record { reading = a_signal f.reading; spelled = cc; tree_is = ap (λ x. member.Signal x) f.tree_is; only = λ r rest ends g. let w = other_than_signal r between rest (sym e ∙ g) in f.only w.0 rest tt w.1 }

other_than_slot : (r : MemberReading) (between rest : List Token) → token.Word word.Slot ∷ between ≡ spell_member r rest → (s : SlotReading) × (between ≡ spell_slot s rest)
other_than_slot (a_property p) between rest g = cc
other_than_slot (a_signal s) between rest g = cc
other_than_slot (a_slot s) between rest g = (s, cc)
other_than_slot (a_native n) between rest g = cc

pub slot_member : {before between after : List Token} {s : Slot} → before ≡ token.Word word.Slot ∷ between → Found spell_slot tree_of_slot EndsAnywhere between s after → Found spell_member tree_of_member EndsAnywhere before (member.Slot s) after
slot_member {before} {between} {after} {s} e f =
    let a = f.spelled in
    record { reading = a_slot f.reading; spelled = cc; tree_is = ap (λ x. member.Slot x) f.tree_is; only = λ r rest ends g. let w = other_than_slot r between rest (sym e ∙ g) in f.only w.0 rest tt w.1 }

other_than_native : (r : MemberReading) (between rest : List Token) → token.Word word.Native ∷ between ≡ spell_member r rest → (n : NativeReading) × (between ≡ spell_native n rest)
other_than_native (a_property p) between rest g = cc
other_than_native (a_signal s) between rest g = cc
other_than_native (a_slot s) between rest g = cc
other_than_native (a_native n) between rest g = (n, cc)

pub native_member : {before between after : List Token} {s : Slot} → before ≡ token.Word word.Native ∷ between → Found spell_native tree_of_native EndsAnywhere between s after → Found spell_member tree_of_member EndsAnywhere before (member.Slot s) after
native_member {before} {between} {after} {s} e f =
    let a = f.spelled in
    record { reading = a_native f.reading; spelled = cc; tree_is = ap (λ x. member.Slot x) f.tree_is; only = λ r rest ends g. let w = other_than_native r between rest (sym e ∙ g) in f.only w.0 rest tt w.1 }

other_than_class : (r : DeclarationReading) (between rest : List Token) → token.Word word.Class ∷ between ≡ spell_declaration r rest → (c : ClassReading) × (between ≡ spell_class c rest)
other_than_class (a_class c) between rest g = (c, cc)
other_than_class (a_wire w) between rest g = cc
other_than_class (an_owns o) between rest g = cc
other_than_class (a_site s) between rest g = cc

pub class_declaration : {before between after : List Token} {c : Class} → before ≡ token.Word word.Class ∷ between → Found spell_class tree_of_class EndsDeclaration between c after → Found spell_declaration tree_of_declaration EndsDeclaration before (declaration.Class c) after
class_declaration {before} {between} {after} {c} e f =
    let a = f.spelled in
    record { reading = a_class f.reading; spelled = cc; tree_is = ap (λ x. declaration.Class x) f.tree_is; only = λ r rest ends g. let w = other_than_class r between rest (sym e ∙ g) in f.only w.0 rest ends w.1 }

other_than_wire : (r : DeclarationReading) (between rest : List Token) → token.Word word.Wire ∷ between ≡ spell_declaration r rest → (w : WireReading) × (between ≡ spell_wire w rest)
other_than_wire (a_class c) between rest g = cc
other_than_wire (a_wire w) between rest g = (w, cc)
other_than_wire (an_owns o) between rest g = cc
other_than_wire (a_site s) between rest g = cc

pub wire_declaration : {before between after : List Token} {w : Wire} → before ≡ token.Word word.Wire ∷ between → Found spell_wire tree_of_wire EndsAnywhere between w after → Found spell_declaration tree_of_declaration EndsDeclaration before (declaration.Wire w) after
wire_declaration {before} {between} {after} {w} e f =
    let a = f.spelled in
    record { reading = a_wire f.reading; spelled = cc; tree_is = ap (λ x. declaration.Wire x) f.tree_is; only = λ r rest ends g. let v = other_than_wire r between rest (sym e ∙ g) in f.only v.0 rest tt v.1 }

other_than_owns : (r : DeclarationReading) (between rest : List Token) → token.Word word.Owns ∷ between ≡ spell_declaration r rest → (o : OwnsReading) × (between ≡ spell_owns o rest)
other_than_owns (a_class c) between rest g = cc
other_than_owns (a_wire w) between rest g = cc
other_than_owns (an_owns o) between rest g = (o, cc)
other_than_owns (a_site s) between rest g = cc

pub owns_declaration : {before between after : List Token} {o : Owns} → before ≡ token.Word word.Owns ∷ between → Found spell_owns tree_of_owns EndsAnywhere between o after → Found spell_declaration tree_of_declaration EndsDeclaration before (declaration.Owns o) after
owns_declaration {before} {between} {after} {o} e f =
    let a = f.spelled in
    record { reading = an_owns f.reading; spelled = cc; tree_is = ap (λ x. declaration.Owns x) f.tree_is; only = λ r rest ends g. let v = other_than_owns r between rest (sym e ∙ g) in f.only v.0 rest tt v.1 }

other_than_site : (r : DeclarationReading) (between rest : List Token) → token.Word word.Binding ∷ between ≡ spell_declaration r rest → (s : SiteReading) × (between ≡ spell_site s rest)
other_than_site (a_class c) between rest g = cc
other_than_site (a_wire w) between rest g = cc
other_than_site (an_owns o) between rest g = cc
other_than_site (a_site s) between rest g = (s, cc)

pub site_declaration : {before between after : List Token} {s : Site} → before ≡ token.Word word.Binding ∷ between → Found spell_site tree_of_site EndsAnywhere between s after → Found spell_declaration tree_of_declaration EndsDeclaration before (declaration.Site s) after
site_declaration {before} {between} {after} {s} e f =
    let a = f.spelled in
    record { reading = a_site f.reading; spelled = cc; tree_is = ap (λ x. declaration.Site x) f.tree_is; only = λ r rest ends g. let v = other_than_site r between rest (sym e ∙ g) in f.only v.0 rest tt v.1 }

-- ---- wires and classes

module _ {before at_arrow at_receiver at_kind at_end : List Token} {sender receiver : List ℕ × Sig} {kind : Kind} (s : Found spell_end tree_of_end EndsAnywhere before sender at_arrow) (arrow : at_arrow ≡ token.Symbol Arrow ∷ at_receiver) (m : Found spell_end tree_of_end EndsAnywhere at_receiver receiver at_kind) (k : Found spell_kind (λ k. k) EndsAnywhere at_kind kind at_end) where
  wire_only : (r : WireReading) (after rest : List Token) → at_end ≡ token.Symbol Semicolon ∷ after → before ≡ spell_wire r rest → after ≡ rest
  wire_only (wire x y z) after rest e g =
      let last = token.Symbol Semicolon ∷ rest in
      let a : at_arrow ≡ token.Symbol Arrow ∷ spell_end y (spell_kind z last) = s.only x (token.Symbol Arrow ∷ spell_end y (spell_kind z last)) tt g in
      let b : at_end ≡ last = k.only z last tt (m.only y (spell_kind z last) tt cc) in
      cc

  pub wire_found : {after : List Token} → at_end ≡ token.Symbol Semicolon ∷ after → Found spell_wire tree_of_wire EndsAnywhere before (record { sender = sender.0; signal = sender.1; receiver = receiver.0; method = receiver.1; kind = kind }) after
  wire_found {after} e =
      let a = s.spelled in let b = m.spelled in let d = k.spelled in
      let x = s.tree_is in let y = m.tree_is in let z = k.tree_is in
      record { reading = wire s.reading m.reading k.reading; spelled = cc; tree_is = cc; only = λ r rest ends g. wire_only r after rest e g }

module _ {before at_base at_open at_members at_end : List Token} {name : List ℕ} {base : Option (List ℕ)} {c : Class} (n : Found spell_name (λ n. n) EndsAnywhere before name at_base) (b : Found spell_base (λ b. b) (NotAt Colon) at_base base at_open) (open_brace : at_open ≡ token.Symbol OpenBrace ∷ at_members) (ms : Found spell_members (class_of name base) EndsAnywhere at_members c at_end) where
  class_end : (r : ClassReading) (rest : List Token) → before ≡ spell_class r rest → (ending : Ending) × (at_end ≡ spell_ending ending rest)
  class_end (class x y xs ending) rest g =
      let last = spell_ending ending rest in
      let body = token.Symbol OpenBrace ∷ spell_members xs last in
      let a : at_open ≡ body = b.only y body (λ after f. cc) (n.only x (spell_base y body) tt g) in
      (ending, ms.only xs last tt cc)

  same_tree : class_of n.reading b.reading ms.reading ≡ c
  same_tree = ap (λ x. class_of x b.reading ms.reading) n.tree_is ∙ (ap (λ x. class_of name x ms.reading) b.tree_is ∙ ms.tree_is)

  with_semicolon : (ending : Ending) (after rest : List Token) → EndsDeclaration rest → at_end ≡ token.Symbol Semicolon ∷ after → at_end ≡ spell_ending ending rest → after ≡ rest
  with_semicolon bare after rest ends e g = absurd (ends after cc)
  with_semicolon semicolon after rest ends e g = cc

  without_semicolon : (ending : Ending) (rest : List Token) → NotAt Semicolon at_end → at_end ≡ spell_ending ending rest → at_end ≡ rest
  without_semicolon bare rest none g = g
  without_semicolon semicolon rest none g = absurd (none rest g)

  pub class_found : (found : Bool) {after : List Token} → Eats (token.Symbol Semicolon) at_end found after → Found spell_class tree_of_class EndsDeclaration before c after
  class_found true {after} e =
      let x = n.spelled in let y = b.spelled in let z = ms.spelled in
      record {
        reading = class n.reading b.reading ms.reading semicolon;
        spelled = cc;
        tree_is = same_tree;
        only = λ r rest ends g. let w = class_end r rest g in with_semicolon w.0 after rest ends e w.1;
      }
  class_found false {after} e =
      let x = n.spelled in let y = b.spelled in let z = ms.spelled in let same = e.0 in
      record {
        reading = class n.reading b.reading ms.reading bare;
        spelled = cc;
        tree_is = same_tree;
        only = λ r rest ends g. let w = class_end r rest g in same ∙ without_semicolon w.0 rest e.1 w.1;
      }
