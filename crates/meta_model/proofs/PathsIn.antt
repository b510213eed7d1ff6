-- The paths and the literals of an expression, from those of its parts.
use Rattle.std.proofs.Common.{◌≡◌, List, [], ◌∷◌, ◌++◌, sym, ap, ◌∙◌}
use Rattle.basic_types.specs.declared.value.Value.{Value}
use Rattle.syntax_trees.specs.declared.syntax.Unary.{Unary}
use Rattle.syntax_trees.specs.declared.syntax.Binary.{Binary}
use Rattle.syntax_trees.specs.declared.syntax.Expr.{Expr}
use Rattle.syntax_trees.specs.declared.syntax.Expr.TheVariants as e
use Rattle.syntax_trees.specs.declared.syntax.Expr.TheOpen as layer
use Rattle.syntax_trees.specs.declared.syntax.Expr.TheViews.{out-Expr, roll-Expr, roll-out-Expr}
use Rattle.syntax_trees.specs.declared.syntax.Expr.TheFolds.{fold-roll-Expr, map-Expr}
use Rattle.meta_model.specs.Sites.{paths_in, paths_step, literals_in, literals_step}

module _ {P : Type 0} where
  -- .. by its outermost part
  pub paths_of : (x : Expr P) (l : layer.Expr-F P (Expr P)) → out-Expr P x ≡ l → paths_in x ≡ paths_step (map-Expr P (Expr P) (List P) paths_in l)
  paths_of x l is = ap paths_in (sym (roll-out-Expr P x) ∙ ap (λ y. roll-Expr P y) is) ∙ fold-roll-Expr P (List P) paths_step l

  pub literals_of : (x : Expr P) (l : layer.Expr-F P (Expr P)) → out-Expr P x ≡ l → literals_in x ≡ literals_step (map-Expr P (Expr P) (List Value) literals_in l)
  literals_of x l is = ap literals_in (sym (roll-out-Expr P x) ∙ ap (λ y. roll-Expr P y) is) ∙ fold-roll-Expr P (List Value) literals_step l

  pub paths-Path : (p : P) → paths_in (e.Path p) ≡ p ∷ []
  paths-Path p = paths_of (e.Path p) (layer.Path p) (e.outs-Path p)

  pub paths-Unary : (op : Unary) (x : Expr P) → paths_in (e.Unary op x) ≡ paths_in x
  paths-Unary op x = paths_of (e.Unary op x) (layer.Unary op x) (e.outs-Unary op x)

  pub paths-Binary : (op : Binary) (x y : Expr P) → paths_in (e.Binary op x y) ≡ paths_in x ++ paths_in y
  paths-Binary op x y = paths_of (e.Binary op x y) (layer.Binary op x y) (e.outs-Binary op x y)
