-- No two readings with the same tokens say something else.
use Rattle.std.proofs.Common.{◌≡◌, ℕ, List, [], ◌∷◌, map, codes, refl, sym, ◌∙◌, ap, subst}
use Rattle.texts.specs.{Numerals.{spell_numeral}, declared.token.Token.{Token}}
use Rattle.texts.specs.declared.token.Token.TheVariants as token
use Rattle.token_reading.{specs.Lists.{spell_each}, specs.Literals.{greatest}, specs.Signatures.{HasPlainReference}, specs.code.Reading.{Found, EndsAnywhere, IsAtEnd}, proofs.OneTree.{HasOneTree}}
use Rattle.certificate_lang.{specs.Grammar.{NodeReading, destruction, of_class, spell_node, tree_of_node, spell_item, HasFewParameters}, specs.declared.version.Version.TheVariants.{Two}, proofs.OneTree.{same_value, one_tree_of_node, one_tree_of_items}}
use Rattle.settling_texts.{specs.Grammar.{IsDepth, spell_depth, tree_of_depth, spell_settling_line, tree_of_settling_line, IsSettlingLine, spell_members, tree_of_members, spell_settling_set, tree_of_settling_set, IsSettlingSet, IsRow}, specs.code.Grammar.{HasFewEach}, specs.code.Reads.{IsAtNumber}, specs.declared.row.SettlingRow.{SettlingRow}, specs.declared.syntax.Depth.{Depth}, proofs.Members.{ends_before, node_some}}
use Rattle.settling.specs.{declared.certificate.SettlingLine.{SettlingLine}, declared.certificate.SettlingSet.{SettlingSet}}
use Rattle.settling_texts.specs.declared.row.SettlingRow.TheVariants as row

-- ---- the bound and the step

one_tree_of_depth : HasOneTree spell_depth tree_of_depth EndsAnywhere
one_tree_of_depth a b r s er es e =
    let first : a.bound.digits ≡ b.bound.digits = cc in
    let second : a.step.digits ≡ b.step.digits = cc in
    let bound = same_value a.bound b.bound first in
    let step = same_value a.step b.step second in
    (cc, cc)

pub one_depth : (tokens : List Token) (a b : Depth) → IsDepth tokens a → IsDepth tokens b → a ≡ b
one_depth tokens a b h k =
    let same = one_tree_of_depth h.reading k.reading [] [] tt tt (sym h.spelled ∙ k.spelled) in
    sym h.tree ∙ (same.0 ∙ k.tree)

pub depth_whole : {tokens after : List Token} {depth : Depth} → Found spell_depth tree_of_depth EndsAnywhere tokens depth after → after ≡ [] → IsDepth tokens depth
depth_whole f end = record { reading = f.reading; spelled = f.spelled ∙ ap (λ (rest : List Token). spell_depth f.reading rest) end; tree = f.tree_is }

-- ---- lines of nodes

one_tree_of_line : HasOneTree spell_settling_line tree_of_settling_line IsAtEnd
one_tree_of_line a b r s er es e =
    let behind_a = spell_numeral greatest a.rank (spell_numeral greatest a.step (spell_each (spell_item Two) a.destroys r)) in
    let behind_b = spell_numeral greatest b.rank (spell_numeral greatest b.step (spell_each (spell_item Two) b.destroys s)) in
    let node = one_tree_of_node a.node b.node behind_a behind_b (λ more g. cc) (λ more g. cc) e in
    let numbers = node.1 in
    let first : a.rank.digits ≡ b.rank.digits = cc in
    let second : a.step.digits ≡ b.step.digits = cc in
    let rank = same_value a.rank b.rank first in
    let step = same_value a.step b.step second in
    let items = one_tree_of_items Two a.destroys b.destroys r s er es cc in
    let same_node = node.0 in
    let same_items = items.0 in
    (cc, items.1)

pub one_line : (tokens : List Token) (a b : SettlingLine) → IsSettlingLine tokens a → IsSettlingLine tokens b → a ≡ b
one_line tokens a b h k =
    let same = one_tree_of_line h.reading k.reading [] [] refl refl (sym h.spelled ∙ k.spelled) in
    sym h.tree ∙ (same.0 ∙ k.tree)

-- a reading of all tokens
module _ {tokens after : List Token} {line : SettlingLine} (f : Found spell_settling_line tree_of_settling_line IsAtEnd tokens line after) (end : after ≡ []) where
  line_spelled : tokens ≡ spell_settling_line f.reading []
  line_spelled = f.spelled ∙ ap (λ (rest : List Token). spell_settling_line f.reading rest) end

  pub line_whole : HasFewParameters line.node.member → ¬ HasPlainReference tokens → IsSettlingLine tokens line
  line_whole few normal = record { reading = f.reading; spelled = line_spelled; tree = f.tree_is; few = few; normal = normal }

  pub line_many : ¬ HasFewParameters line.node.member → (other : SettlingLine) → ¬ IsSettlingLine tokens other
  line_many many other h =
      let same = one_tree_of_line f.reading h.reading [] [] refl refl (sym line_spelled ∙ h.spelled) in
      let is : line ≡ other = sym f.tree_is ∙ (same.0 ∙ h.tree) in
      many (subst (λ (l : SettlingLine). HasFewParameters l.node.member) (sym is) h.few)

-- ---- lines of sets

one_tree_of_nodes : HasOneTree (spell_each spell_node) (map tree_of_node) IsAtEnd
one_tree_of_nodes [] [] r s er es e = (refl, e)
one_tree_of_nodes [] (y ∷ ys) r s er es e = absurd (node_some y (spell_each spell_node ys s) (sym er ∙ e))
one_tree_of_nodes (x ∷ xs) [] r s er es e = absurd (node_some x (spell_each spell_node xs r) (sym es ∙ sym e))
one_tree_of_nodes (x ∷ xs) (y ∷ ys) r s er es e =
    let node = one_tree_of_node x y (spell_each spell_node xs r) (spell_each spell_node ys s) (ends_before xs r er) (ends_before ys s es) e in
    let others = one_tree_of_nodes xs ys r s er es node.1 in
    let first = node.0 in
    let more = others.0 in
    (cc, others.1)

one_tree_of_members : HasOneTree spell_members tree_of_members IsAtEnd
one_tree_of_members a b r s er es e =
    let node = one_tree_of_node a.0 b.0 (spell_each spell_node a.1 r) (spell_each spell_node b.1 s) (ends_before a.1 r er) (ends_before b.1 s es) e in
    let others = one_tree_of_nodes a.1 b.1 r s er es node.1 in
    let first = node.0 in
    let more = others.0 in
    (cc, others.1)

one_tree_of_set : HasOneTree spell_settling_set tree_of_settling_set IsAtEnd
one_tree_of_set a b r s er es e =
    let digits : a.round.digits ≡ b.round.digits = cc in
    let round = same_value a.round b.round digits in
    let members = one_tree_of_members a.members b.members r s er es cc in
    let same = members.0 in
    (cc, members.1)

pub one_set : (tokens : List Token) (a b : SettlingSet) → IsSettlingSet tokens a → IsSettlingSet tokens b → a ≡ b
one_set tokens a b h k =
    let same = one_tree_of_set h.reading k.reading [] [] refl refl (sym h.spelled ∙ k.spelled) in
    sym h.tree ∙ (same.0 ∙ k.tree)

module _ {tokens after : List Token} {set : SettlingSet} (f : Found spell_settling_set tree_of_settling_set IsAtEnd tokens set after) (end : after ≡ []) where
  set_spelled : tokens ≡ spell_settling_set f.reading []
  set_spelled = f.spelled ∙ ap (λ (rest : List Token). spell_settling_set f.reading rest) end

  pub set_whole : HasFewEach set.members → ¬ HasPlainReference tokens → IsSettlingSet tokens set
  set_whole few normal = record { reading = f.reading; spelled = set_spelled; tree = f.tree_is; few = few; normal = normal }

  pub set_many : ¬ HasFewEach set.members → (other : SettlingSet) → ¬ IsSettlingSet tokens other
  set_many many other h =
      let same = one_tree_of_set f.reading h.reading [] [] refl refl (sym set_spelled ∙ h.spelled) in
      let is : set ≡ other = sym f.tree_is ∙ (same.0 ∙ h.tree) in
      many (subst (λ (s : SettlingSet). HasFewEach s.members) (sym is) h.few)

-- ---- what a line says

off_number : (r : NodeReading) (first : Token) (digits : List ℕ) (rest after : List Token) → spell_node r rest ≡ first ∷ token.Number digits ∷ after → ⊥
off_number (destruction name) first digits rest after e = cc
off_number (of_class name m) first digits rest after e = cc

-- a node's second token is no number
pub line_off_number : {tokens : List Token} (line : SettlingLine) → IsSettlingLine tokens line → ¬ IsAtNumber tokens
line_off_number line h at =
    off_number h.reading.node at.0 at.1 (spell_numeral greatest h.reading.rank (spell_numeral greatest h.reading.step (spell_each (spell_item Two) h.reading.destroys []))) at.2 (sym h.spelled ∙ at.3)

-- a set's is
pub set_at_number : {tokens : List Token} (set : SettlingSet) → IsSettlingSet tokens set → IsAtNumber tokens
set_at_number set h = (token.Name (codes "round"), h.reading.round.digits, spell_members h.reading.members [], h.spelled)

pub one_row : (tokens : List Token) (a b : SettlingRow) → IsRow tokens a → IsRow tokens b → a ≡ b
one_row tokens (row.Line a) (row.Line b) h k = ap row.Line (one_line tokens a b h k)
one_row tokens (row.Line a) (row.Set b) h k = absurd (line_off_number a h (set_at_number b k))
one_row tokens (row.Set a) (row.Line b) h k = absurd (line_off_number b k (set_at_number a h))
one_row tokens (row.Set a) (row.Set b) h k = ap row.Set (one_set tokens a b h k)
