-- The grammar of programs. A value of a type below is a way to read tokens by its rule
-- (docs/language.md, "Programs").
--
--   program     = {declaration}
--   declaration = "class" class | "wire" wire | "owns" owns | "binding" binding
--   class       = Name [":" Name] "{" {member} "}" [";"]
--   wire        = end "->" end kind ";"
--   end         = Name sig
--   owns        = Name Name ";"
use Rattle.std.specs.Prelude.{ℕ, ◌≡◌, List, [], ◌∷◌, map, Option}
use Rattle.basic_types.specs.declared.kind.Kind.{Kind}
use Rattle.basic_types.specs.declared.sig.Sig.{Sig}
use Rattle.token_reading.specs.Lists.{spell_each}
use Rattle.token_reading.specs.Reading.{spell_name}
use Rattle.token_reading.specs.Signatures.{SigReading, spell_sig, tree_of_sig, spell_kind}
use Rattle.texts.specs.declared.symbol.Symbol.TheVariants.{Semicolon, Colon, OpenBrace, CloseBrace, Arrow}
use Rattle.texts.specs.declared.token.Token.{Token}
use Rattle.texts.specs.declared.token.Token.TheVariants as token
use Rattle.basic_types.specs.declared.word.Word.TheVariants as word
use Rattle.token_reading.specs.Optional.{spell_optional}
use Rattle.class_lang.specs.Members.{MemberReading, spell_member, tree_of_member, properties_in, signals_in, slots_in}
use Rattle.class_lang.specs.Sites.{SiteReading, spell_site, tree_of_site}
use Rattle.class_lang.specs.declared.declarations.ParsedDeclaration.{ParsedDeclaration}
use Rattle.class_lang.specs.declared.declarations.ParsedDeclaration.TheVariants as declaration
use Rattle.syntax_trees.specs.declared.program.Class.{Class}
use Rattle.syntax_trees.specs.declared.program.Wire.{Wire}
use Rattle.syntax_trees.specs.declared.program.Owns.{Owns}
use Rattle.syntax_trees.specs.declared.program.Site.{Site}
use Rattle.syntax_trees.specs.declared.program.Program.{Program}

-- [";"]
pub data Ending : Type 0 where
  bare : Ending
  semicolon : Ending

abbrev pub spell_ending : Ending → List Token → List Token
spell_ending bare after = after
spell_ending semicolon after = token.Symbol Semicolon ∷ after

-- {member} "}"
abbrev pub spell_members : List MemberReading → List Token → List Token
spell_members members after = spell_each spell_member members (token.Symbol CloseBrace ∷ after)

-- [":" Name]
abbrev pub spell_base : Option (List ℕ) → List Token → List Token
spell_base base after = spell_optional (token.Symbol Colon) spell_name base after

pub data ClassReading : Type 0 where
  class : (name : List ℕ) → (base : Option (List ℕ)) → List MemberReading → Ending → ClassReading

abbrev pub spell_class : ClassReading → List Token → List Token
spell_class (class name base members ending) after =
    token.Name name ∷ spell_base base (token.Symbol OpenBrace ∷ spell_members members (spell_ending ending after))

-- the members of each sort in their order
abbrev pub class_of : List ℕ → Option (List ℕ) → List MemberReading → Class
class_of name base members = record {
  name = name;
  base = base;
  properties = properties_in (map tree_of_member members);
  signals = signals_in (map tree_of_member members);
  slots = slots_in (map tree_of_member members);
}

abbrev pub tree_of_class : ClassReading → Class
tree_of_class (class name base members ending) = class_of name base members

-- a class and a method of it
pub data EndReading : Type 0 where
  end : (owner : List ℕ) → SigReading → EndReading

abbrev pub spell_end : EndReading → List Token → List Token
spell_end (end owner s) after = token.Name owner ∷ spell_sig s after

abbrev pub tree_of_end : EndReading → List ℕ × Sig
tree_of_end (end owner s) = (owner, tree_of_sig s)

pub data WireReading : Type 0 where
  wire : (sender receiver : EndReading) → Kind → WireReading

abbrev pub spell_wire : WireReading → List Token → List Token
spell_wire (wire sender receiver kind) after =
    spell_end sender (token.Symbol Arrow ∷ spell_end receiver (spell_kind kind (token.Symbol Semicolon ∷ after)))

abbrev pub tree_of_wire : WireReading → Wire
tree_of_wire (wire sender receiver kind) = record {
  sender = (tree_of_end sender).0;
  signal = (tree_of_end sender).1;
  receiver = (tree_of_end receiver).0;
  method = (tree_of_end receiver).1;
  kind = kind;
}

-- a class of parents and one of children
pub data OwnsReading : Type 0 where
  owns : (parent child : List ℕ) → OwnsReading

abbrev pub spell_owns : OwnsReading → List Token → List Token
spell_owns (owns parent child) after = token.Name parent ∷ token.Name child ∷ token.Symbol Semicolon ∷ after

abbrev pub tree_of_owns : OwnsReading → Owns
tree_of_owns (owns parent child) = record { parent = parent; child = child }

pub data DeclarationReading : Type 0 where
  a_class : ClassReading → DeclarationReading
  a_wire : WireReading → DeclarationReading
  an_owns : OwnsReading → DeclarationReading
  a_site : SiteReading → DeclarationReading

abbrev pub spell_declaration : DeclarationReading → List Token → List Token
spell_declaration (a_class c) after = token.Word word.Class ∷ spell_class c after
spell_declaration (a_wire w) after = token.Word word.Wire ∷ spell_wire w after
spell_declaration (an_owns o) after = token.Word word.Owns ∷ spell_owns o after
spell_declaration (a_site s) after = token.Word word.Binding ∷ spell_site s after

abbrev pub tree_of_declaration : DeclarationReading → ParsedDeclaration
tree_of_declaration (a_class c) = declaration.Class (tree_of_class c)
tree_of_declaration (a_wire w) = declaration.Wire (tree_of_wire w)
tree_of_declaration (an_owns o) = declaration.Owns (tree_of_owns o)
tree_of_declaration (a_site s) = declaration.Site (tree_of_site s)

-- ---- the declarations of each sort, in their order

abbrev pub classes_in : List ParsedDeclaration → List Class
classes_in [] = []
classes_in (declaration.Class c ∷ declarations) = c ∷ classes_in declarations
classes_in (declaration.Wire w ∷ declarations) = classes_in declarations
classes_in (declaration.Owns o ∷ declarations) = classes_in declarations
classes_in (declaration.Site s ∷ declarations) = classes_in declarations

abbrev pub wires_in : List ParsedDeclaration → List Wire
wires_in [] = []
wires_in (declaration.Class c ∷ declarations) = wires_in declarations
wires_in (declaration.Wire w ∷ declarations) = w ∷ wires_in declarations
wires_in (declaration.Owns o ∷ declarations) = wires_in declarations
wires_in (declaration.Site s ∷ declarations) = wires_in declarations

abbrev pub owns_in : List ParsedDeclaration → List Owns
owns_in [] = []
owns_in (declaration.Class c ∷ declarations) = owns_in declarations
owns_in (declaration.Wire w ∷ declarations) = owns_in declarations
owns_in (declaration.Owns o ∷ declarations) = o ∷ owns_in declarations
owns_in (declaration.Site s ∷ declarations) = owns_in declarations

abbrev pub sites_in : List ParsedDeclaration → List Site
sites_in [] = []
sites_in (declaration.Class c ∷ declarations) = sites_in declarations
sites_in (declaration.Wire w ∷ declarations) = sites_in declarations
sites_in (declaration.Owns o ∷ declarations) = sites_in declarations
sites_in (declaration.Site s ∷ declarations) = s ∷ sites_in declarations

abbrev pub tree_of_program : List DeclarationReading → Program
tree_of_program declarations = record {
  classes = classes_in (map tree_of_declaration declarations);
  wires = wires_in (map tree_of_declaration declarations);
  owns = owns_in (map tree_of_declaration declarations);
  sites = sites_in (map tree_of_declaration declarations);
}

-- ---- programs

-- the tokens are this program
pub record IsProgram (tokens : List Token) (program : Program) : Type 0 where
  pub reading : List DeclarationReading
  pub spelled : tokens ≡ spell_each spell_declaration reading []
  pub tree : tree_of_program reading ≡ program
