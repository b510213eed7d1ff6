-- What holds of all tokens holds of those behind a reading.
use Rattle.std.{proofs.Common.{Bool, true, false, List, [], ◌∷◌, None, Some}, specs.List.{AllByRecursion}}
use Rattle.basic_types.specs.{declared.kind.Kind.TheVariants.{Auto, Direct, Queued}, declared.normal.ConstPlace.{ConstPlace}, declared.normal.ConstPlace.TheVariants.{Nowhere, Before, After}, declared.normal.TypeEnding.TheVariants.{Bare, Reference, Pointer}, declared.word.Word.{Word}}
use Rattle.basic_types.specs.declared.word.Word.TheVariants as word
use Rattle.token_reading.specs.{Connections.{spell_flag}, Lists.{spell_further, spell_after, spell_others, spell_listed, spell_each}, Literals.{unsigned, negative, spell_literal}, Optional.{spell_optional, spell_optional_name}, Reading.{spell_name}, Signatures.{spelled_type, spell_ending, spell_named, spell_type, sig, spell_sig, spell_kind}}
use Rattle.texts.specs.declared.symbol.Symbol.TheVariants as s
use Rattle.syntax_trees.specs.declared.syntax.Root.TheVariants as root
use Rattle.texts.specs.declared.token.Token.{Token}
use Rattle.texts.specs.declared.token.Token.TheVariants as token
use Rattle.slot_lang.specs.{Expressions.{expression, no_conjunction, or_else, conjunction, no_comparison, and_also, alone, compared, sum, no_term, signed, term, no_factor, times, prefixed, literal, path, grouped, spell_root, spell_names, spell_path, spell_expression, spell_conjunctions, spell_conjunction, spell_comparisons, spell_comparison, spell_sum, spell_terms, spell_term, spell_factors, spell_factor}, Grammar.{spell_target, spell_value, spell_set, spell_sets, spell_arguments, spell_path_ends, spell_how, spell_object, no_more, more, set, emit, call, choice, connect, disconnect, delete, later, group, no_else, else_block, spell_statements, spell_statement, spell_else, spell_block}}
use Rattle.class_lang.specs.{Declarations.{bare, semicolon, spell_ending as spell_class_ending, spell_base, end, spell_end, wire, spell_wire, owns, spell_owns}, Natives.{effects, spell_effects}, Parameters.{signal_parameter, spell_signal_parameter, slot_parameter, spell_slot_parameter}, Sites.{formal, spell_formal, site, spell_site}}

module _ (P : Token → Type 0) where
  abbrev pub All : List Token → Type 0
  All tokens = AllByRecursion P tokens

  -- what a reading spells is followed by tokens of which it holds too
  abbrev pub IsBehind : {R : Type 0} → (R → List Token → List Token) → Type 0
  IsBehind {R} spell = (r : R) (after : List Token) → All (spell r after) → All after

  -- ---- lists and options
  pub behind_each : {R : Type 0} (spell : R → List Token → List Token) → IsBehind spell → IsBehind (spell_each spell)
  behind_each spell one [] after h = h
  behind_each spell one (r ∷ rs) after h = behind_each spell one rs after (one r (spell_each spell rs after) h)

  pub behind_further : {R : Type 0} (spell : R → List Token → List Token) → IsBehind spell → IsBehind (spell_further spell)
  behind_further spell one [] after h = h
  behind_further spell one (r ∷ rs) after h = behind_further spell one rs after (one r (spell_further spell rs after) h.1)

  pub behind_after : {R : Type 0} (w : Word) (spell : R → List Token → List Token) → IsBehind spell → IsBehind (spell_after w spell)
  behind_after w spell one [] after h = h
  behind_after w spell one (r ∷ rs) after h = behind_further spell one rs after (one r (spell_further spell rs after) h.1)

  pub behind_listed : {R : Type 0} (spell : R → List Token → List Token) → IsBehind spell → IsBehind (spell_listed spell)
  behind_listed spell one [] after h = h.1.1
  behind_listed spell one (r ∷ rs) after h =
      let further = one r (spell_others spell rs after) h.1 in
      (behind_further spell one rs (token.Symbol s.Close ∷ after) further).1

  pub behind_optional : {R : Type 0} (first : Token) (spell : R → List Token → List Token) → IsBehind spell → IsBehind (spell_optional first spell)
  behind_optional first spell one None after h = h
  behind_optional first spell one (Some r) after h = one r after h.1

  pub behind_optional_name : IsBehind spell_optional_name
  behind_optional_name None after h = h
  behind_optional_name (Some name) after h = h.1

  pub behind_name : IsBehind spell_name
  behind_name name after h = h.1

  -- ---- types and signatures
  pub behind_ending : IsBehind spell_ending
  behind_ending Bare after h = h
  behind_ending Reference after h = h.1
  behind_ending Pointer after h = h.1

  pub behind_named : (place : ConstPlace) → IsBehind (spell_named place)
  behind_named Nowhere name after h = h.1
  behind_named Before name after h = h.1.1
  behind_named After name after h = h.1.1

  pub behind_type : IsBehind spell_type
  behind_type (spelled_type place name ending) after h = behind_ending ending after (behind_named place name (spell_ending ending after) h)

  pub behind_sig : IsBehind spell_sig
  behind_sig (sig name types) after h = behind_listed spell_type behind_type types after h.1

  behind_kind : IsBehind spell_kind
  behind_kind Auto after h = h.1
  behind_kind Direct after h = h.1
  behind_kind Queued after h = h.1

  pub behind_literal : IsBehind spell_literal
  behind_literal (unsigned u) after h = h.1
  behind_literal (negative n) after h = h.1.1

  -- ---- expressions
  behind_root : IsBehind spell_root
  behind_root root.This after h = h.1
  behind_root (root.Name name) after h = h.1

  behind_names : IsBehind spell_names
  behind_names [] after h = h
  behind_names (name ∷ names) after h = behind_names names after h.1.1

  behind_path : IsBehind spell_path
  behind_path p after h = behind_names p.properties after (behind_root p.root (spell_names p.properties after) h)

  mutual
    pub behind_expression : IsBehind spell_expression
    behind_expression (expression c cs) after h = behind_conjunctions cs after (behind_conjunction c (spell_conjunctions cs after) h)

    behind_conjunctions : IsBehind spell_conjunctions
    behind_conjunctions no_conjunction after h = h
    behind_conjunctions (or_else o c cs) after h = behind_conjunctions cs after (behind_conjunction c (spell_conjunctions cs after) h.1)

    behind_conjunction : IsBehind spell_conjunction
    behind_conjunction (conjunction c cs) after h = behind_comparisons cs after (behind_comparison c (spell_comparisons cs after) h)

    behind_comparisons : IsBehind spell_comparisons
    behind_comparisons no_comparison after h = h
    behind_comparisons (and_also o c cs) after h = behind_comparisons cs after (behind_comparison c (spell_comparisons cs after) h.1)

    behind_comparison : IsBehind spell_comparison
    behind_comparison (alone x) after h = behind_sum x after h
    behind_comparison (compared x o y) after h = behind_sum y after (behind_sum x _ h).1

    behind_sum : IsBehind spell_sum
    behind_sum (sum t ts) after h = behind_terms ts after (behind_term t (spell_terms ts after) h)

    behind_terms : IsBehind spell_terms
    behind_terms no_term after h = h
    behind_terms (signed o t ts) after h = behind_terms ts after (behind_term t (spell_terms ts after) h.1)

    behind_term : IsBehind spell_term
    behind_term (term f fs) after h = behind_factors fs after (behind_factor f (spell_factors fs after) h)

    behind_factors : IsBehind spell_factors
    behind_factors no_factor after h = h
    behind_factors (times o f fs) after h = behind_factors fs after (behind_factor f (spell_factors fs after) h.1)

    behind_factor : IsBehind spell_factor
    behind_factor (prefixed u f) after h = behind_factor f after h.1
    behind_factor (literal u) after h = h.1
    behind_factor (path p) after h = behind_path p after h
    behind_factor (grouped e) after h = (behind_expression e (token.Symbol s.Close ∷ after) h.1).1

  -- ---- statements
  behind_target : IsBehind spell_target
  behind_target t after h = (behind_path t.0 (token.Symbol s.Dot ∷ token.Name t.1 ∷ after) h).1.1

  behind_value : IsBehind spell_value
  behind_value e after h = (behind_expression e (token.Symbol s.Semicolon ∷ after) h.1).1

  behind_set : IsBehind spell_set
  behind_set a after h = behind_value a.1 after (behind_target a.0 (spell_value a.1 after) h.1)

  behind_sets : IsBehind spell_sets
  behind_sets sets after h =
      let first = behind_set sets.0 _ h in
      (behind_each spell_set behind_set sets.1 (token.Symbol s.CloseBrace ∷ after) first).1

  behind_arguments : IsBehind spell_arguments
  behind_arguments es after h = (behind_listed spell_expression behind_expression es (token.Symbol s.Semicolon ∷ after) h).1

  behind_path_ends : IsBehind spell_path_ends
  behind_path_ends ends after h =
      let sender = behind_path ends.0.0 _ h in
      let signal = behind_sig ends.0.1 _ sender.1 in
      let receiver = behind_path ends.1.0 _ signal.1 in
      behind_sig ends.1.1 after receiver.1

  behind_flag : (w : Word) (given : Bool) (after : List Token) → All (spell_flag (Some s.Comma) w given after) → All after
  behind_flag w true after h = h.1.1
  behind_flag w false after h = h

  behind_how : IsBehind spell_how
  behind_how how after h =
      let kind = behind_kind how.kind _ h.1 in
      let unique = behind_flag word.Unique how.unique _ kind in
      let single = behind_flag word.Single how.single (token.Symbol s.Semicolon ∷ after) unique in
      single.1

  behind_object : IsBehind spell_object
  behind_object p after h = (behind_path p (token.Symbol s.Semicolon ∷ after) h).1

  mutual
    behind_statements : IsBehind spell_statements
    behind_statements no_more after h = h
    behind_statements (more x body) after h = behind_statements body after (behind_statement x (spell_statements body after) h)

    behind_statement : IsBehind spell_statement
    behind_statement (set a) after h = behind_set a after h
    behind_statement (emit e) after h = behind_arguments e.1 after h.1.1
    behind_statement (call c) after h = behind_arguments c.1 after (behind_target c.0 (spell_arguments c.1 after) h.1)
    behind_statement (choice e body other) after h =
        let condition = behind_expression e _ h.1.1 in
        let block = behind_statements body (token.Symbol s.CloseBrace ∷ spell_else other after) condition.1.1 in
        behind_else other after block.1
    behind_statement (connect c) after h = behind_how c.1 after (behind_path_ends c.0 (spell_how c.1 after) h.1)
    behind_statement (disconnect ends) after h = (behind_path_ends ends (token.Symbol s.Semicolon ∷ after) h.1).1
    behind_statement (delete p) after h = behind_object p after h.1
    behind_statement (later p) after h = behind_object p after h.1
    behind_statement (group sets) after h = behind_sets sets after h.1.1

    behind_else : IsBehind spell_else
    behind_else no_else after h = h
    behind_else (else_block body) after h = (behind_statements body (token.Symbol s.CloseBrace ∷ after) h.1.1).1

  pub behind_block : IsBehind spell_block
  behind_block body after h = (behind_statements body (token.Symbol s.CloseBrace ∷ after) h.1).1

  -- ---- parts of declarations
  pub behind_signal_parameter : IsBehind spell_signal_parameter
  behind_signal_parameter (signal_parameter kind name) after h = behind_optional_name name after (behind_type kind (spell_optional_name name after) h)

  pub behind_slot_parameter : IsBehind spell_slot_parameter
  behind_slot_parameter (slot_parameter kind name) after h = (behind_type kind (token.Name name ∷ after) h).1

  pub behind_effects : IsBehind spell_effects
  behind_effects (effects reads emits sets) after h =
      let read = behind_after word.Reads spell_name behind_name reads _ h in
      let emitted = behind_after word.Emits spell_sig behind_sig emits _ read in
      (behind_after word.Sets spell_name behind_name sets (token.Symbol s.Semicolon ∷ after) emitted).1

  pub behind_base : IsBehind spell_base
  behind_base base after h = behind_optional (token.Symbol s.Colon) spell_name behind_name base after h

  pub behind_class_ending : IsBehind spell_class_ending
  behind_class_ending bare after h = h
  behind_class_ending semicolon after h = h.1

  behind_end : IsBehind spell_end
  behind_end (end owner x) after h = behind_sig x after h.1

  pub behind_wire : IsBehind spell_wire
  behind_wire (wire sender receiver kind) after h =
      let from = behind_end sender _ h in
      let to = behind_end receiver _ from.1 in
      (behind_kind kind (token.Symbol s.Semicolon ∷ after) to).1

  pub behind_owns : IsBehind spell_owns
  behind_owns (owns parent child) after h = h.1.1.1

  behind_formal : IsBehind spell_formal
  behind_formal (formal class name) after h = h.1.1

  pub behind_site : IsBehind spell_site
  behind_site (site name class property formals e fits) after h =
      let listed = behind_listed spell_formal behind_formal formals (spell_value e after) h.1.1.1.1 in
      behind_value e after listed
