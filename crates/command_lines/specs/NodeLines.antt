-- Nodes of a program, as reasons name them (docs/certificate.md, "Nodes").
use Rattle.std.specs.Prelude.{ℕ, List, [], ◌++◌, codes, Option, None, Some, slice_get}
use Rattle.std.specs.List.{flat_map}
use Rattle.basic_types.specs.Spelling.{text_of_sig}
use Rattle.meta_model.specs.Loaded.{Loaded}
use Rattle.meta_model.specs.declared.object.MetaObject.{MetaObject}
use Rattle.meta_model.specs.declared.object.MetaMethod.{MetaMethod}
use Rattle.meta_model.specs.declared.object.MetaProperty.{MetaProperty}
use Rattle.effect_scan.specs.declared.node.Member.{Member}
use Rattle.effect_scan.specs.declared.node.Member.TheVariants.{Method, Property, Destruction}
use Rattle.effect_scan.specs.declared.node.Node.{Node}
use Rattle.command_lines.specs.Lines.{member_text}

-- what has no such member has no text
abbrev pub method_text : Option MetaMethod → List ℕ
method_text None = []
method_text (Some method) = text_of_sig method.sig

abbrev pub name_text : Option MetaProperty → List ℕ
name_text None = []
name_text (Some property) = property.name

-- `C.m(types)`, `C.p` or `~C`
abbrev pub text_in : MetaObject → Member → List ℕ
text_in class (Method number) = member_text class.name (method_text (slice_get class.methods number))
text_in class (Property number) = member_text class.name (name_text (slice_get class.properties number))
text_in class Destruction = codes "~" ++ class.name

-- the same of a class that may be missing, which has no text
abbrev pub text_under : Option MetaObject → Member → List ℕ
text_under None member = []
text_under (Some class) member = text_in class member

abbrev pub text_of_node : Loaded → Node → List ℕ
text_of_node p x = text_under (slice_get p.classes x.class) x.member

-- a blank in front of each
abbrev pub after_blank : Loaded → Node → List ℕ
after_blank p x = codes " " ++ text_of_node p x

abbrev pub text_of_nodes : Loaded → List Node → List ℕ
text_of_nodes p xs = flat_map (after_blank p) xs
