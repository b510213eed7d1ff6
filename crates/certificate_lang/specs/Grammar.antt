-- The grammar of a certificate's lines. A value of a type below is a way to read tokens by its rule
-- (docs/certificate.md, "The certificate").
--
--   setting = Name number                    "certificate" and "bound" are names
--   line    = node number {item}
--   node    = "~" Name | Name "." member
--   member  = sig | Name
--   item    = Name | "~" Name            the second only in version 2
--
-- A number is at most 2147483647.
use Rattle.std.specs.Prelude.{◌≡◌, ℕ, List, [], ◌∷◌, map}
use Rattle.token_reading.specs.Lists.{spell_each}
use Rattle.token_reading.specs.Literals.{greatest}
use Rattle.texts.specs.Numerals.{Numeral, spell_numeral, value_of}
use Rattle.token_reading.specs.Signatures.{SigReading, spell_sig, tree_of_sig, HasPlainReference}
use Rattle.syntax_trees.specs.Connections.{HasFewTypes}
use Rattle.texts.specs.declared.symbol.Symbol.TheVariants.{Dot, Tilde}
use Rattle.texts.specs.declared.token.Token.{Token}
use Rattle.texts.specs.declared.token.Token.TheVariants as token
use Rattle.certificate_lang.specs.declared.certificate.MemberName.{MemberName}
use Rattle.certificate_lang.specs.declared.certificate.MemberName.TheVariants as member
use Rattle.certificate_lang.specs.declared.certificate.NodeName.{NodeName}
use Rattle.certificate_lang.specs.declared.certificate.SetItem.{SetItem}
use Rattle.certificate_lang.specs.declared.certificate.SetItem.TheVariants as item
use Rattle.certificate_lang.specs.declared.certificate.Line.{Line}
use Rattle.certificate_lang.specs.declared.version.Version.{Version}
use Rattle.certificate_lang.specs.declared.version.Version.TheVariants.{Two}

-- ---- a name with a number
abbrev pub spell_setting : List ℕ → Numeral greatest → List Token → List Token
spell_setting name n after = token.Name name ∷ spell_numeral greatest n after

-- the tokens are this name and this number
pub record IsSetting (name : List ℕ) (tokens : List Token) (n : ℕ) : Type 0 where
  pub numeral : Numeral greatest
  pub spelled : tokens ≡ spell_setting name numeral []
  pub value : value_of numeral.digits ≡ n

-- ---- nodes
pub data MemberReading : Type 0 where
  method : SigReading → MemberReading
  property : (name : List ℕ) → MemberReading

abbrev pub spell_member : MemberReading → List Token → List Token
spell_member (method m) after = spell_sig m after
spell_member (property name) after = token.Name name ∷ after

abbrev pub tree_of_member : MemberReading → MemberName
tree_of_member (method m) = member.Method (tree_of_sig m)
tree_of_member (property name) = member.Property name

pub data NodeReading : Type 0 where
  destruction : (class : List ℕ) → NodeReading
  of_class : (class : List ℕ) → MemberReading → NodeReading

abbrev pub spell_node : NodeReading → List Token → List Token
spell_node (destruction class) after = token.Symbol Tilde ∷ token.Name class ∷ after
spell_node (of_class class m) after = token.Name class ∷ token.Symbol Dot ∷ spell_member m after

abbrev pub tree_of_node : NodeReading → NodeName
tree_of_node (destruction class) = record { class = class; member = member.Destruction }
tree_of_node (of_class class m) = record { class = class; member = tree_of_member m }

-- ---- items of destroy sets, which the version tells
pub data ItemReading (version : Version) : Type 0 where
  class : (name : List ℕ) → ItemReading version
  closure : version ≡ Two → (name : List ℕ) → ItemReading version

abbrev pub spell_item : (version : Version) → ItemReading version → List Token → List Token
spell_item version (class name) after = token.Name name ∷ after
spell_item version (closure is name) after = token.Symbol Tilde ∷ token.Name name ∷ after

abbrev pub tree_of_item : (version : Version) → ItemReading version → SetItem
tree_of_item version (class name) = item.Class name
tree_of_item version (closure is name) = item.Closure name

-- ---- lines of nodes
pub record LineReading (version : Version) : Type 0 where
  pub node : NodeReading
  pub rank : Numeral greatest
  pub destroys : List (ItemReading version)

abbrev pub spell_line : (version : Version) → LineReading version → List Token → List Token
spell_line version r after =
    spell_node r.node (spell_numeral greatest r.rank (spell_each (spell_item version) r.destroys after))

abbrev pub tree_of_line : (version : Version) → LineReading version → Line
tree_of_line version r =
    record { node = tree_of_node r.node; rank = value_of r.rank.digits; destroys = map (tree_of_item version) r.destroys }

-- a method has at most 8 parameters
abbrev pub HasFewParameters : MemberName → Type 0
HasFewParameters (member.Method sig) = HasFewTypes sig
HasFewParameters (member.Property name) = Unit {0}
HasFewParameters member.Destruction = Unit {0}

-- the tokens are this line
pub record IsNodeLine (version : Version) (tokens : List Token) (line : Line) : Type 0 where
  pub reading : LineReading version
  pub spelled : tokens ≡ spell_line version reading []
  pub tree : tree_of_line version reading ≡ line
  pub few : HasFewParameters line.node.member
  -- signatures have a normal form
  pub normal : ¬ HasPlainReference tokens
