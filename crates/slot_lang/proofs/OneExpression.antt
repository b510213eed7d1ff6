-- No two readings of an expression with the same tokens stand for different trees.
use Rattle.std.proofs.Common.{◌≡◌, ◌∙◌, ℕ, List, [], ◌∷◌, refl, sym, ap}
use Rattle.syntax_trees.specs.{Literals.{literal_value}, declared.syntax.Expr.{Expr}, declared.syntax.Path.{Path}, declared.syntax.Root.{Root}}
use Rattle.token_reading.{specs.code.Cursor.{NotAt}, proofs.Literals.{no_symbol}, proofs.OneTree.{one_unsigned}}
use Rattle.slot_lang.{specs.Expressions.{Expression, expression, Conjunctions, no_conjunction, or_else, Conjunction, conjunction, Comparisons, no_comparison, and_also, Comparison, alone, compared, Sum, sum, Terms, no_term, signed, Term, term, Factors, no_factor, times, Factor, prefixed, literal, path, grouped, spell_root, spell_names, spell_path, spell_expression, spell_conjunctions, spell_conjunction, spell_comparisons, spell_comparison, spell_sum, spell_terms, spell_term, spell_factors, spell_factor, spell_group, tree_of_expression, tree_of_conjunctions, tree_of_conjunction, tree_of_comparisons, tree_of_comparison, tree_of_sum, tree_of_terms, tree_of_term, tree_of_factors, tree_of_factor, IsExpr}, specs.code.Expressions.{EndsFactor, EndsTerm, EndsSum, EndsComparison, EndsConjunction, EndsExpression}, specs.Precedence.{symbol_of, prefix_symbol_of}, proofs.Chains.{ends_more}, proofs.Factors.{one_prefix, prefix_not_open, root_no_unsigned, ends_at_close}, proofs.Levels.{terms_chain, sums_chain, conjunctions_chain, expressions_chain, sum_ends_at}, proofs.Paths.{root_no_symbol}, proofs.Precedences.{one_operator, expression_ends_at_end}}
use Rattle.texts.specs.{declared.symbol.Symbol.TheVariants.{Dot, Open, Close}, declared.token.Token.{Token}}
use Rattle.syntax_trees.specs.declared.syntax.Expr.TheVariants as tree
use Rattle.syntax_trees.specs.declared.syntax.Root.TheVariants as root
use Rattle.texts.specs.declared.token.Token.TheVariants as token

pub one_names : (a b : List (List ℕ)) (r s : List Token) → NotAt Dot r → NotAt Dot s → spell_names a r ≡ spell_names b s → (a ≡ b) × (r ≡ s)
one_names [] [] r s er es e = (refl, e)
one_names [] (y ∷ ys) r s er es e = absurd (er _ e)
one_names (x ∷ xs) [] r s er es e = absurd (es (token.Name x ∷ spell_names xs r) cc)
one_names (x ∷ xs) (y ∷ ys) r s er es e = let h : (xs ≡ ys) × (r ≡ s) = one_names xs ys r s er es cc in (cc, h.1)

one_root : (a b : Root) (r s : List Token) → spell_root a r ≡ spell_root b s → (a ≡ b) × (r ≡ s)
one_root root.This root.This r s e = (refl, cc)
one_root (root.Name x) (root.Name y) r s e = (cc, cc)
one_root root.This (root.Name y) r s e = cc
one_root (root.Name x) root.This r s e = cc

pub one_path : (a b : Path) (r s : List Token) → EndsFactor r → EndsFactor s → spell_path a r ≡ spell_path b s → (a ≡ b) × (r ≡ s)
one_path a b r s er es e =
    let h = one_root a.root b.root (spell_names a.properties r) (spell_names b.properties s) e in
    let k = one_names a.properties b.properties r s er es h.1 in
    (ap (λ x. let p : Path = record { root = x; properties = a.properties } in p) h.0 ∙ ap (λ ns. let p : Path = record { root = b.root; properties = ns } in p) k.0, k.1)

mutual
  pub one_tree_of_expression : (c d : Expression) (r s : List Token) → EndsExpression r → EndsExpression s → spell_expression c r ≡ spell_expression d s → (tree_of_expression c ≡ tree_of_expression d) × (r ≡ s)
  one_tree_of_expression (expression c cs) (expression d ds) r s er es e =
      let h : (tree_of_conjunction c ≡ tree_of_conjunction d) × (spell_conjunctions cs r ≡ spell_conjunctions ds s) = one_tree_of_conjunction c d (spell_conjunctions cs r) (spell_conjunctions ds s) (ends_more expressions_chain cs r er) (ends_more expressions_chain ds s es) e in
      let k = one_tree_of_conjunctions cs ds r s er es h.1 in
      (ap (tree_of_conjunctions cs) h.0 ∙ k.0 (tree_of_conjunction d), k.1)

  one_tree_of_conjunctions : (cs ds : Conjunctions) (r s : List Token) → EndsExpression r → EndsExpression s → spell_conjunctions cs r ≡ spell_conjunctions ds s → ((left : Expr Path) → tree_of_conjunctions cs left ≡ tree_of_conjunctions ds left) × (r ≡ s)
  one_tree_of_conjunctions no_conjunction no_conjunction r s er es e = (λ left. refl, e)
  one_tree_of_conjunctions no_conjunction (or_else p d ds) r s er es e = absurd (er.here p _ e)
  one_tree_of_conjunctions (or_else o c cs) no_conjunction r s er es e = absurd (es.here o (spell_conjunction c (spell_conjunctions cs r)) cc)
  one_tree_of_conjunctions (or_else o c cs) (or_else p d ds) r s er es e =
      let same = one_operator o.binary p.binary cc in
      let h : (tree_of_conjunction c ≡ tree_of_conjunction d) × (spell_conjunctions cs r ≡ spell_conjunctions ds s) = one_tree_of_conjunction c d (spell_conjunctions cs r) (spell_conjunctions ds s) (ends_more expressions_chain cs r er) (ends_more expressions_chain ds s es) cc in
      let k = one_tree_of_conjunctions cs ds r s er es h.1 in
      (λ left. ap (tree_of_conjunctions cs) (ap (λ b. tree.Binary b left (tree_of_conjunction c)) same ∙ ap (λ x. tree.Binary p.binary left x) h.0) ∙ k.0 (tree.Binary p.binary left (tree_of_conjunction d)), k.1)

  one_tree_of_conjunction : (c d : Conjunction) (r s : List Token) → EndsConjunction r → EndsConjunction s → spell_conjunction c r ≡ spell_conjunction d s → (tree_of_conjunction c ≡ tree_of_conjunction d) × (r ≡ s)
  one_tree_of_conjunction (conjunction c cs) (conjunction d ds) r s er es e =
      let h : (tree_of_comparison c ≡ tree_of_comparison d) × (spell_comparisons cs r ≡ spell_comparisons ds s) = one_tree_of_comparison c d (spell_comparisons cs r) (spell_comparisons ds s) (ends_more conjunctions_chain cs r er) (ends_more conjunctions_chain ds s es) e in
      let k = one_tree_of_comparisons cs ds r s er es h.1 in
      (ap (tree_of_comparisons cs) h.0 ∙ k.0 (tree_of_comparison d), k.1)

  one_tree_of_comparisons : (cs ds : Comparisons) (r s : List Token) → EndsConjunction r → EndsConjunction s → spell_comparisons cs r ≡ spell_comparisons ds s → ((left : Expr Path) → tree_of_comparisons cs left ≡ tree_of_comparisons ds left) × (r ≡ s)
  one_tree_of_comparisons no_comparison no_comparison r s er es e = (λ left. refl, e)
  one_tree_of_comparisons no_comparison (and_also p d ds) r s er es e = absurd (er.here p _ e)
  one_tree_of_comparisons (and_also o c cs) no_comparison r s er es e = absurd (es.here o (spell_comparison c (spell_comparisons cs r)) cc)
  one_tree_of_comparisons (and_also o c cs) (and_also p d ds) r s er es e =
      let same = one_operator o.binary p.binary cc in
      let h : (tree_of_comparison c ≡ tree_of_comparison d) × (spell_comparisons cs r ≡ spell_comparisons ds s) = one_tree_of_comparison c d (spell_comparisons cs r) (spell_comparisons ds s) (ends_more conjunctions_chain cs r er) (ends_more conjunctions_chain ds s es) cc in
      let k = one_tree_of_comparisons cs ds r s er es h.1 in
      (λ left. ap (tree_of_comparisons cs) (ap (λ b. tree.Binary b left (tree_of_comparison c)) same ∙ ap (λ x. tree.Binary p.binary left x) h.0) ∙ k.0 (tree.Binary p.binary left (tree_of_comparison d)), k.1)

  one_tree_of_comparison : (c d : Comparison) (r s : List Token) → EndsComparison r → EndsComparison s → spell_comparison c r ≡ spell_comparison d s → (tree_of_comparison c ≡ tree_of_comparison d) × (r ≡ s)
  one_tree_of_comparison (alone t) (alone u) r s er es e = one_tree_of_sum t u r s er.part es.part e
  one_tree_of_comparison (alone t) (compared u p v) r s er es e =
      let h : (tree_of_sum t ≡ tree_of_sum u) × (r ≡ token.Symbol (symbol_of p.binary) ∷ spell_sum v s) = one_tree_of_sum t u r (token.Symbol (symbol_of p.binary) ∷ spell_sum v s) er.part (sum_ends_at p (spell_sum v s)) e in
      absurd (er.here p (spell_sum v s) h.1)
  one_tree_of_comparison (compared t o w) (alone u) r s er es e =
      let h : (tree_of_sum t ≡ tree_of_sum u) × (token.Symbol (symbol_of o.binary) ∷ spell_sum w r ≡ s) = one_tree_of_sum t u (token.Symbol (symbol_of o.binary) ∷ spell_sum w r) s (sum_ends_at o (spell_sum w r)) es.part e in
      absurd (es.here o (spell_sum w r) (sym h.1))
  one_tree_of_comparison (compared t o w) (compared u p v) r s er es e =
      let h : (tree_of_sum t ≡ tree_of_sum u) × (token.Symbol (symbol_of o.binary) ∷ spell_sum w r ≡ token.Symbol (symbol_of p.binary) ∷ spell_sum v s) = one_tree_of_sum t u (token.Symbol (symbol_of o.binary) ∷ spell_sum w r) (token.Symbol (symbol_of p.binary) ∷ spell_sum v s) (sum_ends_at o (spell_sum w r)) (sum_ends_at p (spell_sum v s)) e in
      let rests = h.1 in
      let same = one_operator o.binary p.binary cc in
      let k : (tree_of_sum w ≡ tree_of_sum v) × (r ≡ s) = one_tree_of_sum w v r s er.part es.part cc in
      (ap (λ x. tree.Binary o.binary x (tree_of_sum w)) h.0 ∙ (ap (λ b. tree.Binary b (tree_of_sum u) (tree_of_sum w)) same ∙ ap (λ x. tree.Binary p.binary (tree_of_sum u) x) k.0), k.1)

  one_tree_of_sum : (c d : Sum) (r s : List Token) → EndsSum r → EndsSum s → spell_sum c r ≡ spell_sum d s → (tree_of_sum c ≡ tree_of_sum d) × (r ≡ s)
  one_tree_of_sum (sum c cs) (sum d ds) r s er es e =
      let h : (tree_of_term c ≡ tree_of_term d) × (spell_terms cs r ≡ spell_terms ds s) = one_tree_of_term c d (spell_terms cs r) (spell_terms ds s) (ends_more sums_chain cs r er) (ends_more sums_chain ds s es) e in
      let k = one_tree_of_terms cs ds r s er es h.1 in
      (ap (tree_of_terms cs) h.0 ∙ k.0 (tree_of_term d), k.1)

  one_tree_of_terms : (cs ds : Terms) (r s : List Token) → EndsSum r → EndsSum s → spell_terms cs r ≡ spell_terms ds s → ((left : Expr Path) → tree_of_terms cs left ≡ tree_of_terms ds left) × (r ≡ s)
  one_tree_of_terms no_term no_term r s er es e = (λ left. refl, e)
  one_tree_of_terms no_term (signed p d ds) r s er es e = absurd (er.here p _ e)
  one_tree_of_terms (signed o c cs) no_term r s er es e = absurd (es.here o (spell_term c (spell_terms cs r)) cc)
  one_tree_of_terms (signed o c cs) (signed p d ds) r s er es e =
      let same = one_operator o.binary p.binary cc in
      let h : (tree_of_term c ≡ tree_of_term d) × (spell_terms cs r ≡ spell_terms ds s) = one_tree_of_term c d (spell_terms cs r) (spell_terms ds s) (ends_more sums_chain cs r er) (ends_more sums_chain ds s es) cc in
      let k = one_tree_of_terms cs ds r s er es h.1 in
      (λ left. ap (tree_of_terms cs) (ap (λ b. tree.Binary b left (tree_of_term c)) same ∙ ap (λ x. tree.Binary p.binary left x) h.0) ∙ k.0 (tree.Binary p.binary left (tree_of_term d)), k.1)

  one_tree_of_term : (c d : Term) (r s : List Token) → EndsTerm r → EndsTerm s → spell_term c r ≡ spell_term d s → (tree_of_term c ≡ tree_of_term d) × (r ≡ s)
  one_tree_of_term (term c cs) (term d ds) r s er es e =
      let h : (tree_of_factor c ≡ tree_of_factor d) × (spell_factors cs r ≡ spell_factors ds s) = one_tree_of_factor c d (spell_factors cs r) (spell_factors ds s) (ends_more terms_chain cs r er) (ends_more terms_chain ds s es) e in
      let k = one_tree_of_factors cs ds r s er es h.1 in
      (ap (tree_of_factors cs) h.0 ∙ k.0 (tree_of_factor d), k.1)

  one_tree_of_factors : (cs ds : Factors) (r s : List Token) → EndsTerm r → EndsTerm s → spell_factors cs r ≡ spell_factors ds s → ((left : Expr Path) → tree_of_factors cs left ≡ tree_of_factors ds left) × (r ≡ s)
  one_tree_of_factors no_factor no_factor r s er es e = (λ left. refl, e)
  one_tree_of_factors no_factor (times p d ds) r s er es e = absurd (er.here p _ e)
  one_tree_of_factors (times o c cs) no_factor r s er es e = absurd (es.here o (spell_factor c (spell_factors cs r)) cc)
  one_tree_of_factors (times o c cs) (times p d ds) r s er es e =
      let same = one_operator o.binary p.binary cc in
      let h : (tree_of_factor c ≡ tree_of_factor d) × (spell_factors cs r ≡ spell_factors ds s) = one_tree_of_factor c d (spell_factors cs r) (spell_factors ds s) (ends_more terms_chain cs r er) (ends_more terms_chain ds s es) cc in
      let k = one_tree_of_factors cs ds r s er es h.1 in
      (λ left. ap (tree_of_factors cs) (ap (λ b. tree.Binary b left (tree_of_factor c)) same ∙ ap (λ x. tree.Binary p.binary left x) h.0) ∙ k.0 (tree.Binary p.binary left (tree_of_factor d)), k.1)

  one_tree_of_factor : (c d : Factor) (r s : List Token) → EndsFactor r → EndsFactor s → spell_factor c r ≡ spell_factor d s → (tree_of_factor c ≡ tree_of_factor d) × (r ≡ s)
  one_tree_of_factor (prefixed u f) (prefixed v g) r s er es e =
      let same = one_prefix u v cc in
      let h : (tree_of_factor f ≡ tree_of_factor g) × (r ≡ s) = one_tree_of_factor f g r s er es cc in
      (ap (λ x. tree.Unary x (tree_of_factor f)) same ∙ ap (λ x. tree.Unary v x) h.0, h.1)
  one_tree_of_factor (literal a) (literal b) r s er es e = (ap (λ x. tree.Literal (literal_value x)) (one_unsigned a b cc), cc)
  one_tree_of_factor (path p) (path q) r s er es e = let h = one_path p q r s er es e in (ap (λ x. tree.Path x) h.0, h.1)
  one_tree_of_factor (grouped c) (grouped d) r s er es e =
      let h : (tree_of_expression c ≡ tree_of_expression d) × (token.Symbol Close ∷ r ≡ token.Symbol Close ∷ s) = one_tree_of_expression c d (token.Symbol Close ∷ r) (token.Symbol Close ∷ s) (ends_at_close r) (ends_at_close s) cc in
      let rests = h.1 in
      (h.0, cc)
  one_tree_of_factor (prefixed u f) (literal b) r s er es e = absurd (no_symbol b (prefix_symbol_of u) cc)
  one_tree_of_factor (literal a) (prefixed v g) r s er es e = absurd (no_symbol a (prefix_symbol_of v) cc)
  one_tree_of_factor (prefixed u f) (path q) r s er es e = absurd (root_no_symbol q.root (prefix_symbol_of u) (spell_names q.properties s) (spell_factor f r) (sym e))
  one_tree_of_factor (path p) (prefixed v g) r s er es e = absurd (root_no_symbol p.root (prefix_symbol_of v) (spell_names p.properties r) (spell_factor g s) e)
  one_tree_of_factor (prefixed u f) (grouped d) r s er es e = absurd (prefix_not_open u cc)
  one_tree_of_factor (grouped c) (prefixed v g) r s er es e = absurd (prefix_not_open v cc)
  one_tree_of_factor (literal a) (path q) r s er es e = absurd (root_no_unsigned q.root a (spell_names q.properties s) r (sym e))
  one_tree_of_factor (path p) (literal b) r s er es e = absurd (root_no_unsigned p.root b (spell_names p.properties r) s e)
  one_tree_of_factor (literal a) (grouped d) r s er es e = absurd (no_symbol a Open cc)
  one_tree_of_factor (grouped c) (literal b) r s er es e = absurd (no_symbol b Open cc)
  one_tree_of_factor (path p) (grouped d) r s er es e = absurd (root_no_symbol p.root Open (spell_names p.properties r) (spell_group d s) e)
  one_tree_of_factor (grouped c) (path q) r s er es e = absurd (root_no_symbol q.root Open (spell_names q.properties s) (spell_group c r) (sym e))

pub one_expression_tree : (tokens : List Token) (a b : Expr Path) → IsExpr tokens a → IsExpr tokens b → a ≡ b
one_expression_tree tokens a b h k =
    let same = one_tree_of_expression h.reading k.reading [] [] expression_ends_at_end expression_ends_at_end (sym h.spelled ∙ k.spelled) in
    sym h.tree ∙ (same.0 ∙ k.tree)
