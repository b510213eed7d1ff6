-- The certificates whose text is read again (docs/certificate.md, "The certificate").
use Rattle.std.specs.Prelude.{ℕ, ◌≡◌, ◌≤◌, List, []}
use Rattle.std.specs.List.{AllByRecursion}
use Rattle.basic_types.specs.Laws.{IsNormalSig}
use Rattle.basic_types.specs.Signatures.{IsFreeName}
use Rattle.token_reading.specs.Literals.{greatest}
use Rattle.texts.specs.Pieces.{AreTokens}
use Rattle.certificate_lang.specs.Grammar.{NodeReading, spell_node, tree_of_node}
use Rattle.certificate_lang.specs.Reads.{IsCertificate}
use Rattle.certificate_lang.specs.declared.certificate.MemberName.{MemberName}
use Rattle.certificate_lang.specs.declared.certificate.MemberName.TheVariants.{Method, Property, Destruction}
use Rattle.certificate_lang.specs.declared.certificate.NodeName.{NodeName}
use Rattle.certificate_lang.specs.declared.certificate.SetItem.{SetItem}
use Rattle.certificate_lang.specs.declared.certificate.SetItem.TheVariants.{Class, Closure}
use Rattle.certificate_lang.specs.declared.certificate.Line.{Line}
use Rattle.certificate_lang.specs.declared.certificate.Certificate.{Certificate}
use Rattle.certificate_lang.specs.Texts.{node_text, certificate_text}

-- a signature in normal form, or a name that isn't a reserved word
abbrev pub IsWritableMember : MemberName → Type 0
IsWritableMember (Method sig) = IsNormalSig sig
IsWritableMember (Property name) = IsFreeName name
IsWritableMember Destruction = Unit {0}

pub record IsWritableNode (node : NodeName) : Type 0 where
  pub class : IsFreeName node.class
  pub member : IsWritableMember node.member

-- a class's name isn't a reserved word either
abbrev pub IsWritableItem : SetItem → Type 0
IsWritableItem (Class name) = IsFreeName name
IsWritableItem (Closure name) = IsFreeName name

-- no number is larger than one may be
pub record IsWritableLine (line : Line) : Type 0 where
  pub node : IsWritableNode line.node
  pub rank : line.rank ≤ greatest
  pub destroys : AllByRecursion IsWritableItem line.destroys

pub record IsWritable (certificate : Certificate) : Type 0 where
  pub bound : certificate.bound ≤ greatest
  pub lines : AllByRecursion IsWritableLine certificate.lines

-- the text is the name of this node
pub record IsNodeText (text : List ℕ) (node : NodeName) : Type 0 where
  pub reading : NodeReading
  pub cut : AreTokens text (spell_node reading [])
  pub tree : tree_of_node reading ≡ node

-- ---- laws

-- a certificate's text is that certificate
abbrev pub TextsAreRead : Type 0
TextsAreRead = (certificate : Certificate) → IsWritable certificate → IsCertificate (certificate_text certificate) certificate

-- a node's text is the name of that node
abbrev pub NodesAreRead : Type 0
NodesAreRead = (node : NodeName) → IsWritableNode node → IsNodeText (node_text node) node

-- a text is the name of one node at most
abbrev pub OneNode : Type 0
OneNode = (text : List ℕ) (a b : NodeName) → IsNodeText text a → IsNodeText text b → a ≡ b
