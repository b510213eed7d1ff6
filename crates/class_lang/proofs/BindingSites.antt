-- Bindings from their parts.
use Rattle.std.proofs.Common.{◌≡◌, ◌∙◌, sym, ap, ℕ, List, ◌∷◌, map, Bool, true, false, ◌&&◌}
use Rattle.basic_types.specs.declared.value.Value.{Value}
use Rattle.slot_lang.{specs.Expressions.{Expression, tree_of_expression}, specs.Grammar.{spell_value}, proofs.Unique.{one_value}}
use Rattle.token_reading.{specs.Lists.{spell_listed}, specs.code.Reading.{Found, EndsAnywhere}, specs.Reading.{spell_name}, proofs.Underway.{None}}
use Rattle.syntax_trees.specs.{declared.program.Formal.{Formal}, declared.syntax.Binary.{Binary}, declared.syntax.Expr.{Expr}, declared.syntax.Expr.TheFolds.{fold-roll-Expr}, declared.syntax.Path.{Path}, declared.syntax.Unary.{Unary}}
use Rattle.texts.specs.{declared.symbol.Symbol.TheVariants.{Dot}, declared.token.Token.{Token}}
use Rattle.syntax_trees.specs.declared.syntax.Expr.TheVariants as e
use Rattle.syntax_trees.specs.declared.syntax.Expr.TheOpen as layer
use Rattle.texts.specs.declared.token.Token.TheVariants as token
use Rattle.class_lang.specs.Sites.{is_no_null, is_of_formal, bexpr_step, is_bexpr, FormalReading, formal, spell_formal, tree_of_formal, SiteReading, site, spell_site, tree_of_site}

-- ---- whether an expression may be in a binding, from its parts

pub bexpr-Literal : (v : Value) → is_bexpr (e.Literal v) ≡ is_no_null v
bexpr-Literal v = ap is_bexpr (sym (e.rolls-Literal v)) ∙ fold-roll-Expr Path Bool bexpr_step (layer.Literal v)

pub bexpr-Path : (p : Path) → is_bexpr (e.Path p) ≡ is_of_formal p
bexpr-Path p = ap is_bexpr (sym (e.rolls-Path p)) ∙ fold-roll-Expr Path Bool bexpr_step (layer.Path p)

pub bexpr-Unary : (op : Unary) (z : Expr Path) → is_bexpr (e.Unary op z) ≡ is_bexpr z
bexpr-Unary op z = ap is_bexpr (sym (e.rolls-Unary op z)) ∙ fold-roll-Expr Path Bool bexpr_step (layer.Unary op z)

pub bexpr-Binary : (op : Binary) (x y : Expr Path) → is_bexpr (e.Binary op x y) ≡ (is_bexpr x && is_bexpr y)
bexpr-Binary op x y = ap is_bexpr (sym (e.rolls-Binary op x y)) ∙ fold-roll-Expr Path Bool bexpr_step (layer.Binary op x y)

pub ruleset bexpr_equations = (bexpr-Literal, bexpr-Path, bexpr-Unary, bexpr-Binary)

-- ---- formal sources

module _ {before at_name : List Token} {class : List ℕ} (c : Found spell_name (λ n. n) EndsAnywhere before class at_name) where
  formal_only : (r : FormalReading) {name : List ℕ} (after rest : List Token) → Found spell_name (λ n. n) EndsAnywhere at_name name after → before ≡ spell_formal r rest → after ≡ rest
  formal_only (formal x y) after rest n g = n.only y rest tt (c.only x (spell_name y rest) tt g)

  pub formal_found : {name : List ℕ} {after : List Token} → Found spell_name (λ n. n) EndsAnywhere at_name name after → Found spell_formal tree_of_formal EndsAnywhere before (record { class = class; name = name }) after
  formal_found {name} {after} n =
      let a = c.spelled in let b = n.spelled in let x = c.tree_is in let y = n.tree_is in
      record { reading = formal c.reading n.reading; spelled = cc; tree_is = cc; only = λ r rest ends g. formal_only r after rest n g }

-- ---- bindings

module _ {before at_class at_dot at_property at_formals at_value : List Token} {name class property : List ℕ} {formals : List Formal} (n : Found spell_name (λ n. n) EndsAnywhere before name at_class) (c : Found spell_name (λ n. n) EndsAnywhere at_class class at_dot) (dot : at_dot ≡ token.Symbol Dot ∷ at_property) (p : Found spell_name (λ n. n) EndsAnywhere at_property property at_formals) (fs : Found (spell_listed spell_formal) (map tree_of_formal) EndsAnywhere at_formals formals at_value) where
  -- where the value begins in any reading
  its_value : (r : SiteReading) (rest : List Token) → before ≡ spell_site r rest → (a : Expression) × (is_bexpr (tree_of_expression a) ≡ true) × (at_value ≡ spell_value a rest)
  its_value (site x y z gs a fits) rest g =
      let tail = spell_listed spell_formal gs (spell_value a rest) in
      let from_dot = token.Symbol Dot ∷ token.Name z ∷ tail in
      let d : at_dot ≡ from_dot = c.only y from_dot tt (n.only x (token.Name y ∷ from_dot) tt g) in
      let q : at_property ≡ token.Name z ∷ tail = cc in
      (a, fits, fs.only gs (spell_value a rest) tt (p.only z tail tt q))

  pub site_found : {expression : Expr Path} {after : List Token} → Found spell_value tree_of_expression EndsAnywhere at_value expression after → is_bexpr expression ≡ true → Found spell_site tree_of_site EndsAnywhere before (record { name = name; class = class; property = property; formals = formals; expression = expression }) after
  site_found {expression} {after} v fits =
      let i = n.spelled in let j = c.spelled in let k = p.spelled in let l = fs.spelled in let m = v.spelled in
      let s = n.tree_is in let t = c.tree_is in let u = p.tree_is in let w = fs.tree_is in let x = v.tree_is in
      record {
        reading = site n.reading c.reading p.reading fs.reading v.reading (ap is_bexpr v.tree_is ∙ fits);
        spelled = cc;
        tree_is = cc;
        only = λ r rest ends g. let z = its_value r rest g in v.only z.0 rest tt z.2;
      }

  -- an expression that may not be in a binding has no other reading that may
  pub no_site : {expression : Expr Path} {after : List Token} → Found spell_value tree_of_expression EndsAnywhere at_value expression after → is_bexpr expression ≡ false → None spell_site EndsAnywhere before
  no_site {expression} {after} v unfit r rest ends g =
      let z = its_value r rest g in
      let same = one_value v.reading z.0 after rest (sym v.spelled ∙ z.2) in
      let fits = z.1 in
      let is = ap is_bexpr (sym v.tree_is ∙ same.0) in
      cc
