-- One rule after another: the first may end where the second begins.
use Rattle.std.proofs.Common.{◌∙◌, List, ap}
use Rattle.token_reading.specs.code.Reading.{Found}
use Rattle.texts.specs.declared.token.Token.{Token}
use Rattle.token_reading.proofs.OneTree.{HasOneTree}

module _ {R S A B C : Type 0} (spell_r : R → List Token → List Token) (tree_r : R → A) (Ends_r : List Token → Type 0) (spell_s : S → List Token → List Token) (tree_s : S → B) (Ends_s : List Token → Type 0) (tree : A → B → C) (meet : (s : S) (rest : List Token) → Ends_s rest → Ends_r (spell_s s rest)) where
  pub both_found : {before between after : List Token} {a : A} {b : B} → Found spell_r tree_r Ends_r before a between → Found spell_s tree_s Ends_s between b after → Found (λ (p : R × S) (rest : List Token). spell_r p.0 (spell_s p.1 rest)) (λ (p : R × S). tree (tree_r p.0) (tree_s p.1)) Ends_s before (tree a b) after
  both_found {a = a} f h = record {
    reading = (f.reading, h.reading);
    spelled = f.spelled ∙ ap (spell_r f.reading) h.spelled;
    tree_is = ap (λ x. tree x (tree_s h.reading)) f.tree_is ∙ ap (tree a) h.tree_is;
    only = λ p rest ends g. h.only p.1 rest ends (f.only p.0 (spell_s p.1 rest) (meet p.1 rest ends) g);
  }

  pub one_tree_of_both : HasOneTree spell_r tree_r Ends_r → HasOneTree spell_s tree_s Ends_s → HasOneTree (λ (p : R × S) (rest : List Token). spell_r p.0 (spell_s p.1 rest)) (λ (p : R × S). tree (tree_r p.0) (tree_s p.1)) Ends_s
  one_tree_of_both one_r one_s p q r s er es e =
      let h = one_r p.0 q.0 (spell_s p.1 r) (spell_s q.1 s) (meet p.1 r er) (meet q.1 s es) e in
      let k = one_s p.1 q.1 r s er es h.1 in
      (ap (λ x. tree x (tree_s p.1)) h.0 ∙ ap (tree (tree_r q.0)) k.0, k.1)
