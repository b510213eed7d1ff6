-- No two readings of a block with the same tokens stand for different trees.
use Rattle.std.proofs.Common.{◌≡◌, ◌∙◌, ℕ, List, [], ◌∷◌, ◌++◌, map, Some, refl, sym, ap}
use Rattle.slot_lang.{specs.Expressions.{Expression, spell_expression, spell_path, tree_of_expression}, specs.code.Expressions.{EndsFactor}, specs.Grammar.{Target, spell_target, spell_value, spell_arguments, Assignment, spell_assignment, tree_of_assignment, spell_set, Sets, spell_sets, trees_of_sets, Emission, spell_emission, tree_of_emission, Call, spell_call, tree_of_call, spell_condition, spell_path_ends, tree_of_path_ends, spell_how, spell_connection, tree_of_connection, spell_disconnection, tree_of_disconnection, spell_object, Body, no_more, more, Statement, set, emit, call, choice, connect, disconnect, delete, later, group, Else, no_else, else_block, spell_statements, spell_statement, spell_else, spell_block, tree_of_block, tree_of_statement, tree_of_else, IsBody}, specs.code.Grammar.{EndsStatement}, proofs.Arguments.{expressions_are_parts}, proofs.Bodies.{begins_with_no_symbol, ends_in_body, value_meets, arguments_meet}, proofs.Factors.{ends_at_close}, proofs.OneExpression.{one_path, one_tree_of_expression}, proofs.Paths.{whole_path, spelled_whole}, proofs.Sets.{spell_left}, proofs.Precedences.{expression_ends}}
use Rattle.token_reading.{specs.code.Connections.{EndsAtSig, EndsConnectionType}, specs.code.Reading.{EndsAnywhere}, proofs.Both.{one_tree_of_both}, proofs.Connections.{one_tree_of_ends, one_tree_of_connection_type}, proofs.OneTree.{HasOneTree, one_tree_of_listed}}
use Rattle.texts.specs.{declared.symbol.Symbol.TheVariants.{Comma, Semicolon, CloseBrace}, declared.token.Token.{Token}}
use Rattle.syntax_trees.specs.{declared.syntax.Path.{Path}, declared.syntax.Stmt.{Stmt}}
use Rattle.syntax_trees.specs.declared.syntax.Stmt.TheVariants as stmt
use Rattle.texts.specs.declared.token.Token.TheVariants as token

-- ---- the parts of statements

same_last : (xs ys : List (List ℕ)) (m n : List ℕ) → xs ++ m ∷ [] ≡ ys ++ n ∷ [] → (xs ≡ ys) × (m ≡ n)
same_last [] [] m n e = (refl, cc)
same_last [] (y ∷ []) m n e = cc
same_last [] (y ∷ z ∷ ys) m n e = cc
same_last (x ∷ []) [] m n e = cc
same_last (x ∷ z ∷ xs) [] m n e = cc
same_last (x ∷ xs) (y ∷ ys) m n e = let h = same_last xs ys m n cc in (cc, h.1)

one_target : (a b : Target) (r s : List Token) → EndsFactor r → EndsFactor s → spell_target a r ≡ spell_target b s → (a ≡ b) × (r ≡ s)
one_target a b r s er es e =
    let h = one_path (whole_path a) (whole_path b) r s er es (spelled_whole a r ∙ (e ∙ sym (spelled_whole b s))) in
    let roots = ap (λ (p : Path). p.root) h.0 in
    let k = same_last a.0.properties b.0.properties a.1 b.1 (ap (λ (p : Path). p.properties) h.0) in
    (ap (λ x. let t : Target = (record { root = x; properties = a.0.properties }, a.1) in t) roots ∙ (ap (λ ns. let t : Target = (record { root = b.0.root; properties = ns }, a.1) in t) k.0 ∙ ap (λ m. let t : Target = (record { root = b.0.root; properties = b.0.properties }, m) in t) k.1), h.1)

pub one_value : (a b : Expression) (r s : List Token) → spell_value a r ≡ spell_value b s → (tree_of_expression a ≡ tree_of_expression b) × (r ≡ s)
one_value a b r s e =
    let h : (tree_of_expression a ≡ tree_of_expression b) × (token.Symbol Semicolon ∷ r ≡ token.Symbol Semicolon ∷ s) = one_tree_of_expression a b (token.Symbol Semicolon ∷ r) (token.Symbol Semicolon ∷ s) (expression_ends Semicolon r refl (λ k. cc)) (expression_ends Semicolon s refl (λ k. cc)) cc in
    let rests = h.1 in
    (h.0, cc)

one_arguments : (a b : List Expression) (r s : List Token) → spell_arguments a r ≡ spell_arguments b s → (map tree_of_expression a ≡ map tree_of_expression b) × (r ≡ s)
one_arguments a b r s e =
    let h = one_tree_of_listed spell_expression tree_of_expression _ expressions_are_parts one_tree_of_expression a b (token.Symbol Semicolon ∷ r) (token.Symbol Semicolon ∷ s) tt tt e in
    let rests = h.1 in
    (h.0, cc)

one_condition : (a b : Expression) (r s : List Token) → spell_condition a r ≡ spell_condition b s → (tree_of_expression a ≡ tree_of_expression b) × (r ≡ s)
one_condition a b r s e =
    let h = one_tree_of_expression a b _ _ (ends_at_close r) (ends_at_close s) cc in
    let rests = h.1 in
    (h.0, cc)

one_assignment : (a b : Assignment) (r s : List Token) → spell_assignment a r ≡ spell_assignment b s → (tree_of_assignment a ≡ tree_of_assignment b) × (r ≡ s)
one_assignment a b r s e =
    let h = one_target a.0 b.0 (spell_value a.1 r) (spell_value b.1 s) (value_meets a.1 r tt) (value_meets b.1 s tt) e in
    let k = one_value a.1 b.1 r s h.1 in
    (ap (λ (t : Target). stmt.Set t.0 t.1 (tree_of_expression a.1)) h.0 ∙ ap (λ x. stmt.Set b.0.0 b.0.1 x) k.0, k.1)

one_set : (a b : Assignment) (r s : List Token) → spell_set a r ≡ spell_set b s → (tree_of_assignment a ≡ tree_of_assignment b) × (r ≡ s)
one_set a b r s e = one_assignment a b r s cc

one_left : (as_ bs : List Assignment) (r s : List Token) → spell_left as_ r ≡ spell_left bs s → (map tree_of_assignment as_ ≡ map tree_of_assignment bs) × (r ≡ s)
one_left [] [] r s e = (refl, cc)
one_left [] (b ∷ bs) r s e = cc
one_left (a ∷ as_) [] r s e = cc
one_left (a ∷ as_) (b ∷ bs) r s e =
    let h = one_set a b (spell_left as_ r) (spell_left bs s) e in
    let k = one_left as_ bs r s h.1 in
    (ap (λ x. x ∷ map tree_of_assignment as_) h.0 ∙ ap (λ xs. tree_of_assignment b ∷ xs) k.0, k.1)

one_sets : (a b : Sets) (r s : List Token) → spell_sets a r ≡ spell_sets b s → (trees_of_sets a ≡ trees_of_sets b) × (r ≡ s)
one_sets (a, as_) (b, bs) r s e = one_left (a ∷ as_) (b ∷ bs) r s e

one_emission : (a b : Emission) (r s : List Token) → spell_emission a r ≡ spell_emission b s → (tree_of_emission a ≡ tree_of_emission b) × (r ≡ s)
one_emission a b r s e =
    let same : a.0 ≡ b.0 = cc in
    let k = one_arguments a.1 b.1 r s cc in
    (ap (λ x. stmt.Emit x (map tree_of_expression a.1)) same ∙ ap (λ es. stmt.Emit b.0 es) k.0, k.1)

one_call : (a b : Call) (r s : List Token) → spell_call a r ≡ spell_call b s → (tree_of_call a ≡ tree_of_call b) × (r ≡ s)
one_call a b r s e =
    let h = one_target a.0 b.0 (spell_arguments a.1 r) (spell_arguments b.1 s) (arguments_meet a.1 r tt) (arguments_meet b.1 s tt) e in
    let k = one_arguments a.1 b.1 r s h.1 in
    (ap (λ (t : Target). stmt.Call t.0 t.1 (map tree_of_expression a.1)) h.0 ∙ ap (λ es. stmt.Call b.0.0 b.0.1 es) k.0, k.1)

paths_end_at_comma : EndsAtSig EndsFactor (Some Comma)
paths_end_at_comma s rest after e = cc

one_path_ends : HasOneTree spell_path_ends tree_of_path_ends EndsAnywhere
one_path_ends = one_tree_of_ends spell_path (λ path. path) EndsFactor (Some Comma) paths_end_at_comma one_path

how_ends : (rest : List Token) → EndsConnectionType (Some Comma) (token.Symbol Semicolon ∷ rest)
how_ends rest = record { not_unique = λ after e. cc; not_single = λ after e. cc }

one_how : HasOneTree spell_how (λ how. how) EndsAnywhere
one_how a b r s er es e =
    let h = one_tree_of_connection_type (Some Comma) a b (token.Symbol Semicolon ∷ r) (token.Symbol Semicolon ∷ s) (how_ends r) (how_ends s) cc in
    let rests = h.1 in
    (h.0, cc)

one_connection : HasOneTree spell_connection tree_of_connection EndsAnywhere
one_connection =
    one_tree_of_both spell_path_ends tree_of_path_ends EndsAnywhere spell_how (λ how. how) EndsAnywhere (λ ends how. stmt.Connect ends how) (λ how rest ends. tt) one_path_ends one_how

one_disconnection : HasOneTree spell_disconnection tree_of_disconnection EndsAnywhere
one_disconnection a b r s er es e =
    let h = one_path_ends a b (token.Symbol Semicolon ∷ r) (token.Symbol Semicolon ∷ s) tt tt e in
    let rests = h.1 in
    (ap (λ ends. stmt.Disconnect ends) h.0, cc)

path_ends_at_semicolon : (rest : List Token) → EndsFactor (token.Symbol Semicolon ∷ rest)
path_ends_at_semicolon rest after e = cc

one_object : HasOneTree spell_object (λ path. path) EndsAnywhere
one_object a b r s er es e =
    let h = one_path a b (token.Symbol Semicolon ∷ r) (token.Symbol Semicolon ∷ s) (path_ends_at_semicolon r) (path_ends_at_semicolon s) e in
    let rests = h.1 in
    (h.0, cc)

-- ---- statements and blocks

mutual
  unique_statements : (c d : Body) (r s : List Token) → spell_statements c (token.Symbol CloseBrace ∷ r) ≡ spell_statements d (token.Symbol CloseBrace ∷ s) → (tree_of_block c ≡ tree_of_block d) × (r ≡ s)
  unique_statements no_more no_more r s e = (refl, cc)
  unique_statements no_more (more b d) r s e = absurd (begins_with_no_symbol b CloseBrace _ r (sym e))
  unique_statements (more a c) no_more r s e = absurd (begins_with_no_symbol a CloseBrace _ s e)
  unique_statements (more a c) (more b d) r s e =
      let h : (tree_of_statement a ≡ tree_of_statement b) × (spell_statements c (token.Symbol CloseBrace ∷ r) ≡ spell_statements d (token.Symbol CloseBrace ∷ s)) = unique_statement a b (spell_statements c (token.Symbol CloseBrace ∷ r)) (spell_statements d (token.Symbol CloseBrace ∷ s)) (ends_in_body c r) (ends_in_body d s) e in
      let k = unique_statements c d r s h.1 in
      (ap (λ x. x ∷ tree_of_block c) h.0 ∙ ap (λ xs. tree_of_statement b ∷ xs) k.0, k.1)

  unique_statement : (a b : Statement) (r s : List Token) → EndsStatement r → EndsStatement s → spell_statement a r ≡ spell_statement b s → (tree_of_statement a ≡ tree_of_statement b) × (r ≡ s)
  unique_statement (set a) (set b) r s er es e = one_assignment a b r s cc
  unique_statement (emit a) (emit b) r s er es e = one_emission a b r s cc
  unique_statement (call a) (call b) r s er es e = one_call a b r s cc
  unique_statement (choice t b o) (choice u c p) r s er es e =
      let h : (tree_of_expression t ≡ tree_of_expression u) × (spell_block b (spell_else o r) ≡ spell_block c (spell_else p s)) = one_condition t u (spell_block b (spell_else o r)) (spell_block c (spell_else p s)) cc in
      let blocks = h.1 in
      let k : (tree_of_block b ≡ tree_of_block c) × (spell_else o r ≡ spell_else p s) = unique_statements b c (spell_else o r) (spell_else p s) cc in
      let m = unique_else o p r s er es k.1 in
      (ap (λ x. stmt.If x (tree_of_block b) (tree_of_else o)) h.0 ∙ (ap (λ x. stmt.If (tree_of_expression u) x (tree_of_else o)) k.0 ∙ ap (λ x. stmt.If (tree_of_expression u) (tree_of_block c) x) m.0), m.1)
  unique_statement (connect a) (connect b) r s er es e = one_connection a b r s tt tt cc
  unique_statement (disconnect a) (disconnect b) r s er es e = one_disconnection a b r s tt tt cc
  unique_statement (delete a) (delete b) r s er es e = let h = one_object a b r s tt tt cc in (ap (λ path. stmt.Delete path) h.0, h.1)
  unique_statement (later a) (later b) r s er es e = let h = one_object a b r s tt tt cc in (ap (λ path. stmt.Later path) h.0, h.1)
  unique_statement (group a) (group b) r s er es e = let h = one_sets a b r s cc in (ap (λ sets. stmt.Group sets) h.0, h.1)
  unique_statement _ _ r s er es e = cc

  unique_else : (o p : Else) (r s : List Token) → EndsStatement r → EndsStatement s → spell_else o r ≡ spell_else p s → (tree_of_else o ≡ tree_of_else p) × (r ≡ s)
  unique_else no_else no_else r s er es e = (refl, e)
  unique_else no_else (else_block d) r s er es e = absurd (er _ e)
  unique_else (else_block c) no_else r s er es e = absurd (es (spell_block c r) cc)
  unique_else (else_block c) (else_block d) r s er es e = unique_statements c d r s cc

pub unique_block : (a b : Body) (r s : List Token) → spell_block a r ≡ spell_block b s → (tree_of_block a ≡ tree_of_block b) × (r ≡ s)
unique_block a b r s e = unique_statements a b r s cc

pub one_body_tree : (tokens : List Token) (a b : List Stmt) → IsBody tokens a → IsBody tokens b → a ≡ b
one_body_tree tokens a b h k =
    let same = unique_block h.reading k.reading [] [] (sym h.spelled ∙ k.spelled) in
    sym h.tree ∙ (same.0 ∙ k.tree)
