-- Rules of the form `part {operator part}`, one set of lemmas for all of them.
use Rattle.std.proofs.Common.{◌≡◌, ◌∙◌, ◌⊎◌, List, ◌∷◌, inl, inr, sym, ap}
use Rattle.slot_lang.specs.code.Expressions.{EndsChain}
use Rattle.slot_lang.specs.Precedence.{symbol_of, precedence_of, Operator}
use Rattle.slot_lang.specs.code.Precedence.{NoOperator}
use Rattle.token_reading.specs.code.Reading.{Found}
use Rattle.slot_lang.specs.declared.precedence.Precedence.{Precedence}
use Rattle.syntax_trees.specs.declared.syntax.Binary.{Binary}
use Rattle.syntax_trees.specs.declared.syntax.Expr.{Expr}
use Rattle.syntax_trees.specs.declared.syntax.Expr.TheVariants as expr
use Rattle.syntax_trees.specs.declared.syntax.Path.{Path}
use Rattle.texts.specs.declared.token.Token.{Token}
use Rattle.texts.specs.declared.token.Token.TheVariants as token
use Rattle.token_reading.proofs.Underway.{None, Underway}

-- R are the readings of the rule, P those of its parts, and M those of what follows its first part
pub record IsChain {R M P : Type 0} (p : Precedence) (spell : R → List Token → List Token) (tree : R → Expr Path) (spell_more : M → List Token → List Token) (tree_more : M → Expr Path → Expr Path) (spell_part : P → List Token → List Token) (tree_part : P → Expr Path) (EndsPart : List Token → Type 0) : Type 0 where
  pub start : P → M → R
  pub none : M
  pub next : Operator p → P → M → M
  pub spell_start : (q : P) (m : M) (after : List Token) → spell (start q m) after ≡ spell_part q (spell_more m after)
  pub tree_start : (q : P) (m : M) → tree (start q m) ≡ tree_more m (tree_part q)
  pub spell_none : (after : List Token) → spell_more none after ≡ after
  pub tree_none : (left : Expr Path) → tree_more none left ≡ left
  pub spell_next : (o : Operator p) (q : P) (m : M) (after : List Token) → spell_more (next o q m) after ≡ token.Symbol (symbol_of o.binary) ∷ spell_part q (spell_more m after)
  pub tree_next : (o : Operator p) (q : P) (m : M) (left : Expr Path) → tree_more (next o q m) left ≡ tree_more m (expr.Binary o.binary left (tree_part q))
  -- each reading is one of these
  pub parts : (r : R) → (q : P) × (m : M) × ((after : List Token) → spell r after ≡ spell_part q (spell_more m after))
  pub cases : (m : M) → ((after : List Token) → spell_more m after ≡ after) ⊎ ((o : Operator p) × (q : P) × (n : M) × ((after : List Token) → spell_more m after ≡ token.Symbol (symbol_of o.binary) ∷ spell_part q (spell_more n after)))
  -- a part ends at the operator
  pub ends_at : (o : Operator p) (after : List Token) → EndsPart (token.Symbol (symbol_of o.binary) ∷ after)

module _ {R M P : Type 0} {p : Precedence} {spell : R → List Token → List Token} {tree : R → Expr Path} {spell_more : M → List Token → List Token} {tree_more : M → Expr Path → Expr Path} {spell_part : P → List Token → List Token} {tree_part : P → Expr Path} {EndsPart : List Token → Type 0} (chain : IsChain p spell tree spell_more tree_more spell_part tree_part EndsPart) where
  abbrev pub ChainSoFar : List Token → Expr Path → List Token → Type 0
  ChainSoFar before left now = Underway spell tree (EndsChain p EndsPart) spell_more tree_more before left now

  pub ends_more : (m : M) (rest : List Token) → EndsChain p EndsPart rest → EndsPart (spell_more m rest)
  ends_more m rest ends = by_cases (chain.cases m)
    where
      by_cases : ((after : List Token) → spell_more m after ≡ after) ⊎ ((o : Operator p) × (q : P) × (n : M) × ((after : List Token) → spell_more m after ≡ token.Symbol (symbol_of o.binary) ∷ spell_part q (spell_more n after))) → EndsPart (spell_more m rest)
      by_cases (inl e) = rw (e rest) ends.part
      by_cases (inr w) = rw (w.3 rest) (chain.ends_at w.0 (spell_part w.1 (spell_more w.2 rest)))

  pub chain_no_first : {before : List Token} → None spell_part EndsPart before → None spell (EndsChain p EndsPart) before
  chain_no_first none r rest ends g =
      let w = chain.parts r in none w.0 (spell_more w.1 rest) (ends_more w.1 rest ends) (g ∙ w.2 rest)

  pub chain_start : {before now : List Token} {left : Expr Path} → Found spell_part tree_part EndsPart before left now → ChainSoFar before left now
  chain_start {before} {now} {left} f = record {
    goes_on = λ m rest e. (chain.start f.reading m, f.spelled ∙ (ap (spell_part f.reading) e ∙ sym (chain.spell_start f.reading m rest)), chain.tree_start f.reading m ∙ ap (tree_more m) f.tree_is);
    all = λ r rest ends g. let w = chain.parts r in (w.1, f.only w.0 (spell_more w.1 rest) (ends_more w.1 rest ends) (g ∙ w.2 rest));
  }

  module _ {before now : List Token} {left : Expr Path} (h : ChainSoFar before left now) where
    module _ (b : Binary) (binds : precedence_of b ≡ p) {between : List Token} (at : now ≡ token.Symbol (symbol_of b) ∷ between) where
      -- what follows the operator
      next_part : (m : M) (rest : List Token) → EndsChain p EndsPart rest → now ≡ spell_more m rest → (q : P) × (n : M) × (between ≡ spell_part q (spell_more n rest))
      next_part m rest ends g = by_cases (chain.cases m)
        where
          by_cases : ((after : List Token) → spell_more m after ≡ after) ⊎ ((o : Operator p) × (q : P) × (n : M) × ((after : List Token) → spell_more m after ≡ token.Symbol (symbol_of o.binary) ∷ spell_part q (spell_more n after))) → (q : P) × (n : M) × (between ≡ spell_part q (spell_more n rest))
          by_cases (inl e) = absurd (ends.here (record { binary = b; binds = binds }) between (sym (g ∙ e rest) ∙ at))
          by_cases (inr w) = let s = w.3 rest in (w.1, w.2, cc)

      pub chain_step : {after : List Token} {right : Expr Path} → Found spell_part tree_part EndsPart between right after → ChainSoFar before (expr.Binary b left right) after
      chain_step {after} {right} f =
          let o : Operator p = record { binary = b; binds = binds } in
          record {
            goes_on = λ m rest g.
                let w = h.goes_on (chain.next o f.reading m) rest (at ∙ (ap (λ ts. token.Symbol (symbol_of b) ∷ ts) (f.spelled ∙ ap (spell_part f.reading) g) ∙ sym (chain.spell_next o f.reading m rest))) in
                (w.0, w.1, w.2 ∙ (chain.tree_next o f.reading m left ∙ ap (λ d. tree_more m (expr.Binary b left d)) f.tree_is));
            all = λ r rest ends g.
                let w = h.all r rest ends g in
                let v = next_part w.0 rest ends w.1 in
                (v.1, f.only v.0 (spell_more v.1 rest) (ends_more v.1 rest ends) v.2);
          }

      pub chain_stuck : None spell_part EndsPart between → None spell (EndsChain p EndsPart) before
      chain_stuck none r rest ends g =
          let w = h.all r rest ends g in
          let v = next_part w.0 rest ends w.1 in
          none v.0 (spell_more v.1 rest) (ends_more v.1 rest ends) v.2

    pub chain_done : NoOperator p now → Found spell tree (EndsChain p EndsPart) before left now
    chain_done none =
        let w = h.goes_on chain.none now (sym (chain.spell_none now)) in
        record {
          reading = w.0;
          spelled = w.1;
          tree_is = w.2 ∙ chain.tree_none left;
          only = λ r rest ends g. let v = h.all r rest ends g in nothing_more v.0 rest v.1 (chain.cases v.0);
        }
      where
        nothing_more : (m : M) (rest : List Token) → now ≡ spell_more m rest → ((after : List Token) → spell_more m after ≡ after) ⊎ ((o : Operator p) × (q : P) × (n : M) × ((after : List Token) → spell_more m after ≡ token.Symbol (symbol_of o.binary) ∷ spell_part q (spell_more n after))) → now ≡ rest
        nothing_more m rest g (inl e) = g ∙ e rest
        nothing_more m rest g (inr w) = absurd (none w.0 (spell_part w.1 (spell_more w.2 rest)) (g ∙ w.3 rest))
