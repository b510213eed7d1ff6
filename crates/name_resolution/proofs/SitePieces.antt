-- Resolving the expressions of binding sites piece by piece.
use Rattle.std.proofs.Common.{◌≡◌, ℕ, List, Any, subst}
use Rattle.basic_types.specs.declared.value.Value.{Value}
use Rattle.syntax_trees.specs.declared.syntax.Unary.{Unary}
use Rattle.syntax_trees.specs.declared.syntax.Binary.{Binary}
use Rattle.syntax_trees.specs.declared.syntax.Expr.{Expr}
use Rattle.syntax_trees.specs.declared.syntax.Expr.TheVariants as e
use Rattle.syntax_trees.specs.declared.syntax.Expr.TheOpen as expr
use Rattle.syntax_trees.specs.declared.syntax.Expr.TheViews.{out-Expr}
use Rattle.syntax_trees.specs.declared.syntax.Path.{Path}
use Rattle.syntax_trees.specs.declared.program.Formal.{Formal}
use Rattle.syntax_trees.specs.declared.program.Property.{Property}
use Rattle.syntax_trees.specs.declared.program.Site.{Site}
use Rattle.meta_model.specs.declared.site.SourceProperty.{SourceProperty}
use Rattle.class_outlines.specs.declared.outline.Outline.{Outline}
use Rattle.meta_model.specs.Literals.{literal}
use Rattle.class_outlines.specs.Outlines.{IsOutlineNamed}
use Rattle.class_outlines.specs.DeclaredSites.{IsSourceProperty}
use Rattle.name_resolution.specs.code.Sites.{IsFormula, literal_is, path_is, unary_is, binary_is}
use Rattle.name_resolution.specs.LackedNames.{LacksInSite}
use Rattle.class_outlines.proofs.Zips.{none_of_zip}

module _ (outlines : List Outline) (site : Site) where
  -- ---- the site
  pub no_formals : Any (λ (f : Formal). (c : ℕ) → ¬ IsOutlineNamed outlines f.class c) site.formals → LacksInSite outlines site
  no_formals any loaded is =
      none_of_zip (λ (f : Formal) (c : ℕ). IsOutlineNamed outlines f.class c) (λ (f : Formal). (c : ℕ) → ¬ IsOutlineNamed outlines f.class c)
      site.formals loaded.formals is.formals (λ f c h lacks. lacks c h) any

  pub no_formula : ((f : Expr SourceProperty) → ¬ IsFormula outlines site site.expression f) → LacksInSite outlines site
  no_formula none loaded is = none loaded.formula is.formula

  -- ---- its expression
  pub literal_piece : (v : Value) → IsFormula outlines site (e.Literal v) (e.Literal (literal v))
  literal_piece v = literal_is (e.outs-Literal v) (e.outs-Literal (literal v))

  pub path_piece : (path : Path) (s : SourceProperty) (x : Property) → IsSourceProperty outlines site path s x → IsFormula outlines site (e.Path path) (e.Path s)
  path_piece path s x h = path_is (e.outs-Path path) (e.outs-Path s) h

  pub unary_piece : (op : Unary) (a : Expr Path) (b : Expr SourceProperty) → IsFormula outlines site a b → IsFormula outlines site (e.Unary op a) (e.Unary op b)
  unary_piece op a b h = unary_is (e.outs-Unary op a) (e.outs-Unary op b) h

  pub binary_piece : (op : Binary) (a c : Expr Path) (b d : Expr SourceProperty) → IsFormula outlines site a b → IsFormula outlines site c d → IsFormula outlines site (e.Binary op a c) (e.Binary op b d)
  binary_piece op a c b d h k = binary_is (e.outs-Binary op a c) (e.outs-Binary op b d) h k

  -- ---- an expression without a resolved form, by its outermost part
  path_of : (x : Expr Path) (f : Expr SourceProperty) (path : Path) → out-Expr Path x ≡ expr.Path path → IsFormula outlines site x f
      → (s : SourceProperty) × (y : Property) × IsSourceProperty outlines site path s y
  path_of x f path is (literal_is a b) = absurd (cc)
  path_of x f path is (path_is {path = p} {s = s} {property = y} a b h) = let same : p ≡ path = cc in (s, y, subst (λ z. IsSourceProperty outlines site z s y) same h)
  path_of x f path is (unary_is a b h) = absurd (cc)
  path_of x f path is (binary_is a b h k) = absurd (cc)

  pub no_path : (path : Path) → ((s : SourceProperty) (x : Property) → ¬ IsSourceProperty outlines site path s x) → (f : Expr SourceProperty) → ¬ IsFormula outlines site (e.Path path) f
  no_path path none f is = let r = path_of (e.Path path) f path (e.outs-Path path) is in none r.0 r.1 r.2

  operand_of : (x : Expr Path) (f : Expr SourceProperty) (op : Unary) (a : Expr Path) → out-Expr Path x ≡ expr.Unary op a → IsFormula outlines site x f
      → (b : Expr SourceProperty) × IsFormula outlines site a b
  operand_of x f op a is (literal_is c d) = absurd (cc)
  operand_of x f op a is (path_is c d h) = absurd (cc)
  operand_of x f op a is (unary_is {a = y} {b = b} c d h) = let same : y ≡ a = cc in (b, subst (λ z. IsFormula outlines site z b) same h)
  operand_of x f op a is (binary_is c d h k) = absurd (cc)

  pub no_operand : (op : Unary) (a : Expr Path) → ((b : Expr SourceProperty) → ¬ IsFormula outlines site a b) → (f : Expr SourceProperty) → ¬ IsFormula outlines site (e.Unary op a) f
  no_operand op a none f is = let r = operand_of (e.Unary op a) f op a (e.outs-Unary op a) is in none r.0 r.1

  operands_of : (x : Expr Path) (f : Expr SourceProperty) (op : Binary) (a c : Expr Path) → out-Expr Path x ≡ expr.Binary op a c → IsFormula outlines site x f
      → ((b : Expr SourceProperty) × IsFormula outlines site a b) × ((d : Expr SourceProperty) × IsFormula outlines site c d)
  operands_of x f op a c is (literal_is g h) = absurd (cc)
  operands_of x f op a c is (path_is g h k) = absurd (cc)
  operands_of x f op a c is (unary_is g h k) = absurd (cc)
  operands_of x f op a c is (binary_is {a = y} {c = z} {b = b} {d = d} g h k l) =
      let same : y ≡ a = cc in
      let same2 : z ≡ c = cc in
      ((b, subst (λ v. IsFormula outlines site v b) same k), (d, subst (λ v. IsFormula outlines site v d) same2 l))

  pub no_left : (op : Binary) (a c : Expr Path) → ((b : Expr SourceProperty) → ¬ IsFormula outlines site a b) → (f : Expr SourceProperty) → ¬ IsFormula outlines site (e.Binary op a c) f
  no_left op a c none f is = let r = operands_of (e.Binary op a c) f op a c (e.outs-Binary op a c) is in none r.0.0 r.0.1

  pub no_right : (op : Binary) (a c : Expr Path) → ((d : Expr SourceProperty) → ¬ IsFormula outlines site c d) → (f : Expr SourceProperty) → ¬ IsFormula outlines site (e.Binary op a c) f
  no_right op a c none f is = let r = operands_of (e.Binary op a c) f op a c (e.outs-Binary op a c) is in none r.1.0 r.1.1
