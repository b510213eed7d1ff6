-- The grammar of a settling certificate's lines. A value of a type below is a way to read tokens by its rule
-- (docs/settling.md, "The certificate").
--
--   depth = Name number number               the name is "bound"
--   line  = node number number {item}
--   set   = Name number node {node}          the name is "round"
--
-- The first line is a setting named "settling". Settings, nodes and items are those of a certificate in version 2. A number is
-- at most 2147483647.
use Rattle.std.specs.Prelude.{◌≡◌, List, [], ◌∷◌, map, codes}
use Rattle.std.specs.List.{All}
use Rattle.token_reading.specs.Lists.{spell_each}
use Rattle.token_reading.specs.Literals.{greatest}
use Rattle.token_reading.specs.Signatures.{HasPlainReference}
use Rattle.texts.specs.Numerals.{Numeral, spell_numeral, value_of}
use Rattle.texts.specs.declared.token.Token.{Token}
use Rattle.certificate_lang.specs.Grammar.{spell_setting, NodeReading, spell_node, tree_of_node, ItemReading, spell_item, tree_of_item, HasFewParameters}
use Rattle.certificate_lang.specs.declared.certificate.NodeName.{NodeName}
use Rattle.certificate_lang.specs.declared.version.Version.TheVariants.{Two}
use Rattle.settling.specs.declared.certificate.SettlingLine.{SettlingLine}
use Rattle.settling.specs.declared.certificate.SettlingSet.{SettlingSet}
use Rattle.settling_texts.specs.declared.row.SettlingRow.{SettlingRow}
use Rattle.settling_texts.specs.declared.row.SettlingRow.TheVariants as row
use Rattle.settling_texts.specs.declared.syntax.Depth.{Depth}

-- ---- the bound and the step
pub record DepthReading : Type 0 where
  pub bound : Numeral greatest
  pub step : Numeral greatest

abbrev pub spell_depth : DepthReading → List Token → List Token
spell_depth r after = spell_setting (codes "bound") r.bound (spell_numeral greatest r.step after)

abbrev pub tree_of_depth : DepthReading → Depth
tree_of_depth r = record { bound = value_of r.bound.digits; step = value_of r.step.digits }

-- the tokens are this bound and this step
pub record IsDepth (tokens : List Token) (depth : Depth) : Type 0 where
  pub reading : DepthReading
  pub spelled : tokens ≡ spell_depth reading []
  pub tree : tree_of_depth reading ≡ depth

-- ---- lines of nodes
pub record SettlingLineReading : Type 0 where
  pub node : NodeReading
  pub rank : Numeral greatest
  pub step : Numeral greatest
  pub destroys : List (ItemReading Two)

abbrev pub spell_settling_line : SettlingLineReading → List Token → List Token
spell_settling_line r after =
    spell_node r.node (spell_numeral greatest r.rank (spell_numeral greatest r.step (spell_each (spell_item Two) r.destroys after)))

abbrev pub tree_of_settling_line : SettlingLineReading → SettlingLine
tree_of_settling_line r =
    record {
      node = tree_of_node r.node;
      rank = value_of r.rank.digits;
      step = value_of r.step.digits;
      destroys = map (tree_of_item Two) r.destroys;
    }

-- the tokens are this line of a node
pub record IsSettlingLine (tokens : List Token) (line : SettlingLine) : Type 0 where
  pub reading : SettlingLineReading
  pub spelled : tokens ≡ spell_settling_line reading []
  pub tree : tree_of_settling_line reading ≡ line
  pub few : HasFewParameters line.node.member
  -- signatures have a normal form
  pub normal : ¬ HasPlainReference tokens

-- ---- lines of sets

-- node {node}: the first one and the others
abbrev pub spell_members : NodeReading × List NodeReading → List Token → List Token
spell_members members after = spell_node members.0 (spell_each spell_node members.1 after)

abbrev pub tree_of_members : NodeReading × List NodeReading → List NodeName
tree_of_members members = tree_of_node members.0 ∷ map tree_of_node members.1

pub record SettlingSetReading : Type 0 where
  pub round : Numeral greatest
  pub members : NodeReading × List NodeReading

abbrev pub spell_settling_set : SettlingSetReading → List Token → List Token
spell_settling_set r after = spell_setting (codes "round") r.round (spell_members r.members after)

abbrev pub tree_of_settling_set : SettlingSetReading → SettlingSet
tree_of_settling_set r = record { round = value_of r.round.digits; members = tree_of_members r.members }

-- the tokens are this line of a set
pub record IsSettlingSet (tokens : List Token) (set : SettlingSet) : Type 0 where
  pub reading : SettlingSetReading
  pub spelled : tokens ≡ spell_settling_set reading []
  pub tree : tree_of_settling_set reading ≡ set
  pub few : All (λ node. HasFewParameters node.member) set.members
  pub normal : ¬ HasPlainReference tokens

-- ---- what lines say

-- the tokens say this
abbrev pub IsRow : List Token → SettlingRow → Type 0
IsRow tokens (row.Line line) = IsSettlingLine tokens line
IsRow tokens (row.Set set) = IsSettlingSet tokens set

-- the lines of nodes, in their order
abbrev pub lines_of : List SettlingRow → List SettlingLine
lines_of [] = []
lines_of (row.Line line ∷ rows) = line ∷ lines_of rows
lines_of (row.Set set ∷ rows) = lines_of rows

-- the sets, in theirs
abbrev pub sets_of : List SettlingRow → List SettlingSet
sets_of [] = []
sets_of (row.Line line ∷ rows) = sets_of rows
sets_of (row.Set set ∷ rows) = set ∷ sets_of rows
