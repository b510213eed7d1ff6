-- How the names in a binding site are looked up, in the outlines of classes (docs/language.md, "Names").
use Rattle.std.specs.Prelude.{◌≡◌, ℕ, List}
use Rattle.std.specs.List.{AllZip}
use Rattle.basic_types.specs.declared.value.Value.{Value}
use Rattle.syntax_trees.specs.declared.syntax.Unary.{Unary}
use Rattle.syntax_trees.specs.declared.syntax.Binary.{Binary}
use Rattle.syntax_trees.specs.declared.syntax.Expr.{Expr}
use Rattle.syntax_trees.specs.declared.syntax.Expr.TheOpen as expr
use Rattle.syntax_trees.specs.declared.syntax.Expr.TheViews.{out-Expr}
use Rattle.syntax_trees.specs.declared.syntax.Path.{Path}
use Rattle.syntax_trees.specs.declared.program.Formal.{Formal}
use Rattle.syntax_trees.specs.declared.program.Property.{Property}
use Rattle.syntax_trees.specs.declared.program.Site.{Site}
use Rattle.meta_model.specs.declared.site.SourceProperty.{SourceProperty}
use Rattle.meta_model.specs.declared.site.MetaSite.{MetaSite}
use Rattle.class_outlines.specs.declared.outline.Outline.{Outline}
use Rattle.meta_model.specs.Literals.{literal}
use Rattle.class_outlines.specs.Outlines.{IsOutlineNamed}
use Rattle.class_outlines.specs.DeclaredSites.{IsPropertyIn, IsSourceProperty}

-- the site's expression, each of its paths a property of a formal source
pub data IsFormula (outlines : List Outline) (site : Site) : Expr Path → Expr SourceProperty → Type 0 where
  literal_is : {e : Expr Path} {f : Expr SourceProperty} {v : Value} → out-Expr Path e ≡ expr.Literal v
      → out-Expr SourceProperty f ≡ expr.Literal (literal v) → IsFormula outlines site e f
  path_is : {e : Expr Path} {f : Expr SourceProperty} {path : Path} {s : SourceProperty} {property : Property}
      → out-Expr Path e ≡ expr.Path path → out-Expr SourceProperty f ≡ expr.Path s
      → IsSourceProperty outlines site path s property → IsFormula outlines site e f
  unary_is : {e a : Expr Path} {f b : Expr SourceProperty} {op : Unary} → out-Expr Path e ≡ expr.Unary op a
      → out-Expr SourceProperty f ≡ expr.Unary op b → IsFormula outlines site a b → IsFormula outlines site e f
  binary_is : {e a c : Expr Path} {f b d : Expr SourceProperty} {op : Binary} → out-Expr Path e ≡ expr.Binary op a c
      → out-Expr SourceProperty f ≡ expr.Binary op b d → IsFormula outlines site a b → IsFormula outlines site c d
      → IsFormula outlines site e f

-- the class of the formal source has this number
abbrev pub IsFormalOf : List Outline → Formal → ℕ → Type 0
IsFormalOf outlines formal c = IsOutlineNamed outlines formal.class c

-- the site, by numbers
pub record IsSite (outlines : List Outline) (site : Site) (loaded : MetaSite) : Type 0 where
  pub named : loaded.name ≡ site.name
  pub property : Property
  pub target : IsPropertyIn outlines site.class site.property loaded.class loaded.property property
  pub formals : AllZip (IsFormalOf outlines) site.formals loaded.formals
  pub formula : IsFormula outlines site site.expression loaded.formula
