-- What the readers of a line's parts do.
use Rattle.std.specs.Prelude.{List, Result}
use Rattle.std.specs.List.{All}
use Rattle.texts.specs.declared.token.Token.{Token}
use Rattle.token_reading.specs.code.Reading.{Reads, EndsAnywhere, IsAtEnd}
use Rattle.token_reading.specs.declared.fault.ParseFault.{ParseFault}
use Rattle.certificate_lang.specs.Grammar.{HasFewParameters}
use Rattle.certificate_lang.specs.declared.certificate.NodeName.{NodeName}
use Rattle.settling.specs.declared.certificate.SettlingLine.{SettlingLine}
use Rattle.settling.specs.declared.certificate.SettlingSet.{SettlingSet}
use Rattle.settling_texts.specs.declared.syntax.Depth.{Depth}
use Rattle.settling_texts.specs.Grammar.{spell_depth, tree_of_depth, spell_settling_line, tree_of_settling_line, spell_members, tree_of_members, spell_settling_set, tree_of_settling_set}

abbrev pub ReadsDepth : List Token → Result Depth ParseFault → List Token → Type 0
ReadsDepth before result after = Reads spell_depth tree_of_depth EndsAnywhere before result after

-- all tokens of a line are read as a node's line
abbrev pub ReadsSettlingLine : List Token → Result SettlingLine ParseFault → List Token → Type 0
ReadsSettlingLine before result after = Reads spell_settling_line tree_of_settling_line IsAtEnd before result after

-- .. as nodes
abbrev pub ReadsMembers : List Token → Result (List NodeName) ParseFault → List Token → Type 0
ReadsMembers before result after = Reads spell_members tree_of_members IsAtEnd before result after

-- .. as a set's line
abbrev pub ReadsSettlingSet : List Token → Result SettlingSet ParseFault → List Token → Type 0
ReadsSettlingSet before result after = Reads spell_settling_set tree_of_settling_set IsAtEnd before result after

-- no method of them has more than 8 parameters
abbrev pub HasFewEach : List NodeName → Type 0
HasFewEach nodes = All (λ node. HasFewParameters node.member) nodes
