-- The nodes of a set, one after another up to the end of a line.
use Rattle.std.proofs.Common.{◌≡◌, List, [], ◌∷◌, ◌++◌, map, refl, sym, ◌∙◌, ap, append_assoc}
use Rattle.std.proofs.lemmas.List.{append-nil}
use Rattle.texts.specs.declared.token.Token.{Token}
use Rattle.token_reading.specs.Lists.{spell_each}
use Rattle.token_reading.specs.code.Reading.{Found, IsAtEnd}
use Rattle.token_reading.proofs.Underway.{None, Underway}
use Rattle.certificate_lang.specs.Grammar.{NodeReading, destruction, of_class, spell_node, tree_of_node}
use Rattle.certificate_lang.specs.code.Grammar.{EndsNode}
use Rattle.certificate_lang.specs.declared.certificate.NodeName.{NodeName}
use Rattle.settling_texts.specs.Grammar.{spell_members, tree_of_members}

-- a node may stand in front of nodes
pub ends_before : (rs : List NodeReading) (rest : List Token) → IsAtEnd rest → EndsNode (spell_each spell_node rs rest)
ends_before [] rest ends after e = cc
ends_before (destruction class ∷ rs) rest ends after e = cc
ends_before (of_class class m ∷ rs) rest ends after e = cc

pub node_some : (r : NodeReading) (after : List Token) → [] ≡ spell_node r after → ⊥
node_some (destruction class) after e = cc
node_some (of_class class m) after e = cc

-- found so far, from the first node at `before` on
abbrev pub MembersSoFar : List Token → List NodeName → List Token → Type 0
MembersSoFar before found now =
    Underway spell_members tree_of_members IsAtEnd (spell_each spell_node) (λ more found. found ++ map tree_of_node more) before found now

pub no_first : {before : List Token} → None spell_node EndsNode before → None spell_members IsAtEnd before
no_first none r rest ends g = none r.0 (spell_each spell_node r.1 rest) (ends_before r.1 rest ends) g

pub members_start : {before now : List Token} {node : NodeName} → Found spell_node tree_of_node EndsNode before node now → MembersSoFar before (node ∷ []) now
members_start f = record {
  goes_on = λ m rest g. ((f.reading, m), f.spelled ∙ ap (spell_node f.reading) g, ap (λ (x : NodeName). x ∷ map tree_of_node m) f.tree_is);
  all = λ r rest ends g. (r.1, f.only r.0 (spell_each spell_node r.1 rest) (ends_before r.1 rest ends) g);
}

after_node : (rs : List NodeReading) (now after rest : List Token) {node : NodeName} → IsAtEnd rest → Found spell_node tree_of_node EndsNode now node after → now ≡ spell_each spell_node rs rest
    → (more : List NodeReading) × (after ≡ spell_each spell_node more rest)
after_node [] now after rest at_end f g = absurd (node_some f.reading after (sym at_end ∙ sym g ∙ f.spelled))
after_node (r ∷ rs) now after rest at_end f g = (rs, f.only r (spell_each spell_node rs rest) (ends_before rs rest at_end) g)

no_node_left : (rs : List NodeReading) (now rest : List Token) → IsAtEnd rest → ¬ (now ≡ []) → None spell_node EndsNode now → now ≡ spell_each spell_node rs rest → ⊥
no_node_left [] now rest at_end some none g = some (g ∙ at_end)
no_node_left (r ∷ rs) now rest at_end some none g = none r (spell_each spell_node rs rest) (ends_before rs rest at_end) g

module _ {before : List Token} {found : List NodeName} {now : List Token} (h : MembersSoFar before found now) where
  pub members_step : {node : NodeName} {after : List Token} → Found spell_node tree_of_node EndsNode now node after → MembersSoFar before (found ++ node ∷ []) after
  members_step {node} {after} f = record {
    goes_on = λ rs rest g.
        let w = h.goes_on (f.reading ∷ rs) rest (f.spelled ∙ ap (spell_node f.reading) g) in
        (w.0, w.1, w.2 ∙ ap (λ (x : NodeName). found ++ x ∷ map tree_of_node rs) f.tree_is ∙ sym (append_assoc found (node ∷ []) (map tree_of_node rs)));
    all = λ r rest ends g. let w = h.all r rest ends g in after_node w.0 now after rest ends f w.1;
  }

  pub members_done : now ≡ [] → Found spell_members tree_of_members IsAtEnd before found now
  members_done e =
      let w = h.goes_on [] now refl in
      record { reading = w.0; spelled = w.1; tree_is = w.2 ∙ append-nil found; only = λ r rest ends g. e ∙ sym ends }

  pub members_stuck : ¬ (now ≡ []) → None spell_node EndsNode now → None spell_members IsAtEnd before
  members_stuck some none r rest ends g = let w = h.all r rest ends g in no_node_left w.0 now rest ends some none w.1
