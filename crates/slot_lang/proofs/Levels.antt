-- The rules of expressions between operands.
use Rattle.std.proofs.Common.{◌≡◌, ◌∙◌, ◌⊎◌, ℕ, List, ◌∷◌, inl, inr, refl, sym}
use Rattle.slot_lang.specs.Expressions.{Expression, expression, Conjunctions, no_conjunction, or_else, Conjunction, conjunction, Comparisons, no_comparison, and_also, Comparison, alone, compared, Sum, sum, Terms, no_term, signed, Term, term, Factors, no_factor, times, Factor, spell_expression, spell_conjunctions, spell_conjunction, spell_comparisons, spell_comparison, spell_sum, spell_terms, spell_term, spell_factors, spell_factor, tree_of_expression, tree_of_conjunctions, tree_of_conjunction, tree_of_comparisons, tree_of_comparison, tree_of_sum, tree_of_terms, tree_of_term, tree_of_factors, tree_of_factor}
use Rattle.slot_lang.specs.code.Expressions.{EndsFactor, EndsTerm, EndsSum, EndsComparison, EndsConjunction}
use Rattle.slot_lang.specs.code.Levels.{precedence_at, spell_at, tree_at, spell_operand, tree_of_operand, EndsOperand}
use Rattle.slot_lang.specs.Precedence.{symbol_of, precedence_of, Operator}
use Rattle.slot_lang.specs.code.Precedence.{NoOperator}
use Rattle.token_reading.specs.code.Reading.{Found}
use Rattle.slot_lang.specs.declared.precedence.Level.{Level}
use Rattle.slot_lang.specs.declared.precedence.Level.TheVariants as level
use Rattle.slot_lang.specs.declared.precedence.Precedence.TheVariants as precedence
use Rattle.syntax_trees.specs.declared.syntax.Binary.{Binary}
use Rattle.syntax_trees.specs.declared.syntax.Expr.{Expr}
use Rattle.syntax_trees.specs.declared.syntax.Expr.TheVariants as tree
use Rattle.syntax_trees.specs.declared.syntax.Path.{Path}
use Rattle.texts.specs.declared.token.Token.{Token}
use Rattle.texts.specs.declared.token.Token.TheVariants as token
use Rattle.slot_lang.proofs.Chains.{IsChain}
use Rattle.slot_lang.proofs.Precedences.{no_dot, term_ends, sum_ends, comparison_ends, conjunction_ends}
use Rattle.token_reading.proofs.Underway.{None}

term_parts : (r : Term) → (q : Factor) × (m : Factors) × ((after : List Token) → spell_term r after ≡ spell_factor q (spell_factors m after))
term_parts (term f fs) = (f, fs, λ after. refl)

factors_cases : (m : Factors) → ((after : List Token) → spell_factors m after ≡ after) ⊎ ((o : Operator precedence.Term) × (q : Factor) × (n : Factors) × ((after : List Token) → spell_factors m after ≡ token.Symbol (symbol_of o.binary) ∷ spell_factor q (spell_factors n after)))
factors_cases no_factor = inl (λ after. refl)
factors_cases (times o f fs) = inr (o, f, fs, λ after. refl)

pub terms_chain : IsChain precedence.Term spell_term tree_of_term spell_factors tree_of_factors spell_factor tree_of_factor EndsFactor
terms_chain = record {
  start = λ q m. term q m;
  none = no_factor;
  next = λ o q m. times o q m;
  spell_start = λ q m after. refl;
  tree_start = λ q m. refl;
  spell_none = λ after. refl;
  tree_none = λ left. refl;
  spell_next = λ o q m after. refl;
  tree_next = λ o q m left. refl;
  parts = term_parts;
  cases = factors_cases;
  ends_at = λ o after. no_dot o.binary after;
}

sum_parts : (r : Sum) → (q : Term) × (m : Terms) × ((after : List Token) → spell_sum r after ≡ spell_term q (spell_terms m after))
sum_parts (sum t ts) = (t, ts, λ after. refl)

terms_cases : (m : Terms) → ((after : List Token) → spell_terms m after ≡ after) ⊎ ((o : Operator precedence.Sum) × (q : Term) × (n : Terms) × ((after : List Token) → spell_terms m after ≡ token.Symbol (symbol_of o.binary) ∷ spell_term q (spell_terms n after)))
terms_cases no_term = inl (λ after. refl)
terms_cases (signed o t ts) = inr (o, t, ts, λ after. refl)

pub term_ends_at : (o : Operator precedence.Sum) (after : List Token) → EndsTerm (token.Symbol (symbol_of o.binary) ∷ after)
term_ends_at o after = let binds = o.binds in term_ends o.binary after (λ e. cc)

pub sums_chain : IsChain precedence.Sum spell_sum tree_of_sum spell_terms tree_of_terms spell_term tree_of_term EndsTerm
sums_chain = record {
  start = λ q m. sum q m;
  none = no_term;
  next = λ o q m. signed o q m;
  spell_start = λ q m after. refl;
  tree_start = λ q m. refl;
  spell_none = λ after. refl;
  tree_none = λ left. refl;
  spell_next = λ o q m after. refl;
  tree_next = λ o q m left. refl;
  parts = sum_parts;
  cases = terms_cases;
  ends_at = term_ends_at;
}

conjunction_parts : (r : Conjunction) → (q : Comparison) × (m : Comparisons) × ((after : List Token) → spell_conjunction r after ≡ spell_comparison q (spell_comparisons m after))
conjunction_parts (conjunction c cs) = (c, cs, λ after. refl)

comparisons_cases : (m : Comparisons) → ((after : List Token) → spell_comparisons m after ≡ after) ⊎ ((o : Operator precedence.And) × (q : Comparison) × (n : Comparisons) × ((after : List Token) → spell_comparisons m after ≡ token.Symbol (symbol_of o.binary) ∷ spell_comparison q (spell_comparisons n after)))
comparisons_cases no_comparison = inl (λ after. refl)
comparisons_cases (and_also o c cs) = inr (o, c, cs, λ after. refl)

pub comparison_ends_at : (o : Operator precedence.And) (after : List Token) → EndsComparison (token.Symbol (symbol_of o.binary) ∷ after)
comparison_ends_at o after = let binds = o.binds in comparison_ends o.binary after (λ e. cc) (λ e. cc) (λ e. cc)

pub conjunctions_chain : IsChain precedence.And spell_conjunction tree_of_conjunction spell_comparisons tree_of_comparisons spell_comparison tree_of_comparison EndsComparison
conjunctions_chain = record {
  start = λ q m. conjunction q m;
  none = no_comparison;
  next = λ o q m. and_also o q m;
  spell_start = λ q m after. refl;
  tree_start = λ q m. refl;
  spell_none = λ after. refl;
  tree_none = λ left. refl;
  spell_next = λ o q m after. refl;
  tree_next = λ o q m left. refl;
  parts = conjunction_parts;
  cases = comparisons_cases;
  ends_at = comparison_ends_at;
}

expression_parts : (r : Expression) → (q : Conjunction) × (m : Conjunctions) × ((after : List Token) → spell_expression r after ≡ spell_conjunction q (spell_conjunctions m after))
expression_parts (expression c cs) = (c, cs, λ after. refl)

conjunctions_cases : (m : Conjunctions) → ((after : List Token) → spell_conjunctions m after ≡ after) ⊎ ((o : Operator precedence.Or) × (q : Conjunction) × (n : Conjunctions) × ((after : List Token) → spell_conjunctions m after ≡ token.Symbol (symbol_of o.binary) ∷ spell_conjunction q (spell_conjunctions n after)))
conjunctions_cases no_conjunction = inl (λ after. refl)
conjunctions_cases (or_else o c cs) = inr (o, c, cs, λ after. refl)

pub conjunction_ends_at : (o : Operator precedence.Or) (after : List Token) → EndsConjunction (token.Symbol (symbol_of o.binary) ∷ after)
conjunction_ends_at o after = let binds = o.binds in conjunction_ends o.binary after (λ e. cc) (λ e. cc) (λ e. cc) (λ e. cc)

pub expressions_chain : IsChain precedence.Or spell_expression tree_of_expression spell_conjunctions tree_of_conjunctions spell_conjunction tree_of_conjunction EndsConjunction
expressions_chain = record {
  start = λ q m. expression q m;
  none = no_conjunction;
  next = λ o q m. or_else o q m;
  spell_start = λ q m after. refl;
  tree_start = λ q m. refl;
  spell_none = λ after. refl;
  tree_none = λ left. refl;
  spell_next = λ o q m after. refl;
  tree_next = λ o q m left. refl;
  parts = expression_parts;
  cases = conjunctions_cases;
  ends_at = conjunction_ends_at;
}

-- ---- the rule of each level

abbrev pub MoreAt : Level → Type 0
MoreAt level.Or = Conjunctions
MoreAt level.And = Comparisons
MoreAt level.Sum = Terms
MoreAt level.Term = Factors

abbrev pub spell_more : (l : Level) → MoreAt l → List Token → List Token
spell_more level.Or = spell_conjunctions
spell_more level.And = spell_comparisons
spell_more level.Sum = spell_terms
spell_more level.Term = spell_factors

abbrev pub tree_of_more : (l : Level) → MoreAt l → Expr Path → Expr Path
tree_of_more level.Or = tree_of_conjunctions
tree_of_more level.And = tree_of_comparisons
tree_of_more level.Sum = tree_of_terms
tree_of_more level.Term = tree_of_factors

-- how many rules lie below the operands of the level
abbrev pub operand_rank : Level → ℕ
operand_rank level.Term = 1
operand_rank level.Sum = 3
operand_rank level.And = 6
operand_rank level.Or = 8

pub chain_at : (l : Level) → IsChain (precedence_at l) (spell_at l) (tree_at l) (spell_more l) (tree_of_more l) (spell_operand l) (tree_of_operand l) (EndsOperand l)
chain_at level.Or = expressions_chain
chain_at level.And = conjunctions_chain
chain_at level.Sum = sums_chain
chain_at level.Term = terms_chain

-- ---- comparisons, which don't chain

pub sum_ends_at : (o : Operator precedence.Comparison) (after : List Token) → EndsSum (token.Symbol (symbol_of o.binary) ∷ after)
sum_ends_at o after = let binds = o.binds in sum_ends o.binary after (λ e. cc) (λ e. cc)

pub no_left : {before : List Token} → None spell_sum EndsSum before → None spell_comparison EndsComparison before
no_left none (alone s) rest ends g = none s rest ends.part g
no_left none (compared s o t) rest ends g = none s (token.Symbol (symbol_of o.binary) ∷ spell_sum t rest) (sum_ends_at o (spell_sum t rest)) g

module _ {before now : List Token} {left : Expr Path} (f : Found spell_sum tree_of_sum EndsSum before left now) where
  alone_only : (r : Comparison) (rest : List Token) → NoOperator precedence.Comparison now → EndsComparison rest → before ≡ spell_comparison r rest → now ≡ rest
  alone_only (alone s) rest none ends g = f.only s rest ends.part g
  alone_only (compared s o t) rest none ends g = absurd (none o (spell_sum t rest) (f.only s (token.Symbol (symbol_of o.binary) ∷ spell_sum t rest) (sum_ends_at o (spell_sum t rest)) g))

  pub alone_found : NoOperator precedence.Comparison now → Found spell_comparison tree_of_comparison EndsComparison before left now
  alone_found none = record { reading = alone f.reading; spelled = f.spelled; tree_is = f.tree_is; only = λ r rest ends g. alone_only r rest none ends g }

  module _ (b : Binary) (binds : precedence_of b ≡ precedence.Comparison) {between : List Token} (at : now ≡ token.Symbol (symbol_of b) ∷ between) where
    right_part : (r : Comparison) (rest : List Token) → EndsComparison rest → before ≡ spell_comparison r rest → (t : Sum) × (between ≡ spell_sum t rest)
    right_part (alone s) rest ends g = absurd (ends.here (record { binary = b; binds = binds }) between (sym (f.only s rest ends.part g) ∙ at))
    right_part (compared s o t) rest ends g =
        let same = f.only s (token.Symbol (symbol_of o.binary) ∷ spell_sum t rest) (sum_ends_at o (spell_sum t rest)) g in
        (t, cc)

    pub no_right : None spell_sum EndsSum between → None spell_comparison EndsComparison before
    no_right none r rest ends g = let w = right_part r rest ends g in none w.0 rest ends.part w.1

    pub compared_found : {right : Expr Path} {after : List Token} → Found spell_sum tree_of_sum EndsSum between right after → Found spell_comparison tree_of_comparison EndsComparison before (tree.Binary b left right) after
    compared_found {right} {after} g =
        let s = f.spelled in
        let t = g.spelled in
        let x = f.tree_is in
        let y = g.tree_is in
        record {
          reading = compared f.reading (record { binary = b; binds = binds }) g.reading;
          spelled = cc;
          tree_is = cc;
          only = λ r rest ends k. let w = right_part r rest ends k in g.only w.0 rest ends.part w.1;
        }
