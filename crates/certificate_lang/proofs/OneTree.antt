-- No two readings with the same tokens stand for different lines.
use Rattle.std.proofs.Common.{◌≡◌, ℕ, List, [], ◌∷◌, map, refl, sym, ◌∙◌, ap, subst}
use Rattle.token_reading.specs.Lists.{spell_each}
use Rattle.token_reading.specs.Literals.{greatest}
use Rattle.texts.specs.Numerals.{Numeral, spell_numeral, value_of}
use Rattle.token_reading.specs.code.Reading.{Found, IsAtEnd}
use Rattle.token_reading.specs.Signatures.{sig, HasPlainReference}
use Rattle.texts.specs.declared.token.Token.{Token}
use Rattle.token_reading.proofs.OneTree.{HasOneTree, one_tree_of_sig}
use Rattle.certificate_lang.specs.declared.certificate.MemberName.TheVariants as member
use Rattle.certificate_lang.specs.declared.certificate.Line.{Line}
use Rattle.certificate_lang.specs.declared.version.Version.{Version}
use Rattle.certificate_lang.specs.code.Grammar.{EndsNode}
use Rattle.certificate_lang.specs.Grammar.{IsSetting, method, property, spell_member, tree_of_member, destruction, of_class, spell_node, tree_of_node, class, closure, spell_item, tree_of_item, spell_line, tree_of_line, HasFewParameters, IsNodeLine}
use Rattle.certificate_lang.proofs.Nodes.{no_list}
use Rattle.certificate_lang.proofs.Items.{item_some}

one_tree_of_member : HasOneTree spell_member tree_of_member EndsNode
one_tree_of_member (method a) (method b) r s er es e =
    let h = one_tree_of_sig a b r s tt tt e in
    (ap member.Method h.0, h.1)
one_tree_of_member (method (sig x ts)) (property y) r s er es e = absurd (no_list ts s r es cc)
one_tree_of_member (property x) (method (sig y ts)) r s er es e = absurd (no_list ts r s er cc)
one_tree_of_member (property x) (property y) r s er es e = (cc, cc)

pub one_tree_of_node : HasOneTree spell_node tree_of_node EndsNode
one_tree_of_node (destruction x) (destruction y) r s er es e = (cc, cc)
one_tree_of_node (destruction x) (of_class y n) r s er es e = cc
one_tree_of_node (of_class x m) (destruction y) r s er es e = cc
one_tree_of_node (of_class x m) (of_class y n) r s er es e =
    let h : (tree_of_member m ≡ tree_of_member n) × (r ≡ s) = one_tree_of_member m n r s er es cc in
    let same = h.0 in
    (cc, h.1)

pub one_tree_of_items : (v : Version) → HasOneTree (spell_each (spell_item v)) (map (tree_of_item v)) IsAtEnd
one_tree_of_items v [] [] r s er es e = (refl, e)
one_tree_of_items v [] (y ∷ ys) r s er es e = absurd (item_some v y (spell_each (spell_item v) ys s) (sym er ∙ e))
one_tree_of_items v (x ∷ xs) [] r s er es e = absurd (item_some v x (spell_each (spell_item v) xs r) (sym es ∙ sym e))
one_tree_of_items v (class x ∷ xs) (class y ∷ ys) r s er es e =
    let h : (map (tree_of_item v) xs ≡ map (tree_of_item v) ys) × (r ≡ s) = one_tree_of_items v xs ys r s er es cc in
    let same = h.0 in
    (cc, h.1)
one_tree_of_items v (class x ∷ xs) (closure is y ∷ ys) r s er es e = cc
one_tree_of_items v (closure is x ∷ xs) (class y ∷ ys) r s er es e = cc
one_tree_of_items v (closure is x ∷ xs) (closure also y ∷ ys) r s er es e =
    let h : (map (tree_of_item v) xs ≡ map (tree_of_item v) ys) × (r ≡ s) = one_tree_of_items v xs ys r s er es cc in
    let same = h.0 in
    (cc, h.1)

pub same_value : (a b : Numeral greatest) → a.digits ≡ b.digits → value_of a.digits ≡ value_of b.digits
same_value a b e = ap value_of e

one_tree_of_line : (v : Version) → HasOneTree (spell_line v) (tree_of_line v) IsAtEnd
one_tree_of_line v a b r s er es e =
    let node = one_tree_of_node a.node b.node (spell_numeral greatest a.rank (spell_each (spell_item v) a.destroys r)) (spell_numeral greatest b.rank (spell_each (spell_item v) b.destroys s)) (λ more g. cc) (λ more g. cc) e in
    let numbers = node.1 in
    let digits : a.rank.digits ≡ b.rank.digits = cc in
    let rank = same_value a.rank b.rank digits in
    let items = one_tree_of_items v a.destroys b.destroys r s er es cc in
    let same_node = node.0 in
    let same_items = items.0 in
    (cc, items.1)

pub one_line : (v : Version) (tokens : List Token) (a b : Line) → IsNodeLine v tokens a → IsNodeLine v tokens b → a ≡ b
one_line v tokens a b h k =
    let same = one_tree_of_line v h.reading k.reading [] [] refl refl (sym h.spelled ∙ k.spelled) in
    sym h.tree ∙ (same.0 ∙ k.tree)

pub one_setting : (name : List ℕ) (tokens : List Token) (m n : ℕ) → IsSetting name tokens m → IsSetting name tokens n → m ≡ n
one_setting name tokens m n h k =
    let a = h.spelled in
    let b = k.spelled in
    let digits : h.numeral.digits ≡ k.numeral.digits = cc in
    sym h.value ∙ (same_value h.numeral k.numeral digits ∙ k.value)

-- a reading of all tokens
module _ {v : Version} {tokens after : List Token} {line : Line} (f : Found (spell_line v) (tree_of_line v) IsAtEnd tokens line after) (end : after ≡ []) where
  whole : tokens ≡ spell_line v f.reading []
  whole = f.spelled ∙ ap (spell_line v f.reading) end

  pub line_whole : HasFewParameters line.node.member → ¬ HasPlainReference tokens → IsNodeLine v tokens line
  line_whole few normal = record { reading = f.reading; spelled = whole; tree = f.tree_is; few = few; normal = normal }

  pub many_parameters : ¬ HasFewParameters line.node.member → (other : Line) → ¬ IsNodeLine v tokens other
  many_parameters many other h =
      let same = one_tree_of_line v f.reading h.reading [] [] refl refl (sym whole ∙ h.spelled) in
      let is : line ≡ other = sym f.tree_is ∙ (same.0 ∙ h.tree) in
      many (subst (λ (l : Line). HasFewParameters l.node.member) (sym is) h.few)
