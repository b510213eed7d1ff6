-- A certificate as a text, as the maker writes it (docs/certificate.md, "The certificate").
use Rattle.std.specs.Prelude.{ℕ, List, ◌++◌, codes, decimal}
use Rattle.std.specs.List.{flat_map}
use Rattle.basic_types.specs.Spelling.{text_of_sig}
use Rattle.certificate_lang.specs.declared.certificate.MemberName.{MemberName}
use Rattle.certificate_lang.specs.declared.certificate.MemberName.TheVariants.{Method, Property, Destruction}
use Rattle.certificate_lang.specs.declared.certificate.NodeName.{NodeName}
use Rattle.certificate_lang.specs.declared.certificate.SetItem.{SetItem}
use Rattle.certificate_lang.specs.declared.certificate.SetItem.TheVariants.{Class, Closure}
use Rattle.certificate_lang.specs.declared.certificate.Line.{Line}
use Rattle.certificate_lang.specs.declared.certificate.Certificate.{Certificate}

-- `C.m(types)`, `C.p` or `~C`
abbrev pub node_text_of : List ℕ → MemberName → List ℕ
node_text_of class (Method sig) = class ++ codes "." ++ text_of_sig sig
node_text_of class (Property name) = class ++ codes "." ++ name
node_text_of class Destruction = codes "~" ++ class

abbrev pub node_text : NodeName → List ℕ
node_text node = node_text_of node.class node.member

-- `C` or `~C`
abbrev pub item_text : SetItem → List ℕ
item_text (Class name) = name
item_text (Closure name) = codes "~" ++ name

-- an item's text with a blank in front
abbrev pub listed_text : SetItem → List ℕ
listed_text item = codes " " ++ item_text item

-- `NODE RANK {ITEM}`
abbrev pub node_line : Line → List ℕ
node_line line =
    node_text line.node ++ (codes " " ++ (decimal line.rank ++ (flat_map listed_text line.destroys ++ codes "\n")))

-- version 2, the bound, and the lines of the nodes
abbrev pub certificate_text : Certificate → List ℕ
certificate_text certificate =
    codes "certificate 2\n" ++ (codes "bound " ++ decimal certificate.bound ++ codes "\n") ++ flat_map node_line certificate.lines
