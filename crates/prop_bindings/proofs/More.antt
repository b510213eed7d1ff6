-- An expression that has a value keeps it where what it reads keeps its values.
use Rattle.std.proofs.Common.{◌≡◌, Option, None, Some, refl, ap, sym, ◌∙◌, subst}
use Rattle.std.specs.Option.{option_and_then}
use Rattle.basic_types.specs.declared.value.Value.{Value}
use Rattle.syntax_trees.specs.declared.syntax.Unary.{Unary}
use Rattle.syntax_trees.specs.declared.syntax.Binary.{Binary}
use Rattle.syntax_trees.specs.declared.syntax.Expr.{Expr}
use Rattle.syntax_trees.specs.declared.syntax.Expr.TheOpen as layer
use Rattle.syntax_trees.specs.declared.syntax.Expr.TheViews.{roll-Expr}
use Rattle.syntax_trees.specs.declared.syntax.Expr.TheFolds.{fold-roll-Expr, ind-Expr, map-Expr}
use Rattle.expressions.specs.Operators.{unary, binary}
use Rattle.expressions.specs.Evaluation.{value as value_in, value_step}

-- where the first has a value, it is the second's too
abbrev pub More : Option Value → Option Value → Type 0
More v w = (x : Value) → v ≡ Some x → w ≡ Some x

one-more : (op : Unary) (v w : Option Value) → More v w → More (option_and_then (unary op) v) (option_and_then (unary op) w)
one-more op None w h x is = absurd (cc is)
one-more op (Some v) w h x is = ap (option_and_then (unary op)) (h v refl) ∙ is

both-more : (op : Binary) (v v' w w' : Option Value) → More v v' → More w w' → More (option_and_then (λ a. option_and_then (binary op a) w) v) (option_and_then (λ a. option_and_then (binary op a) w') v')
both-more op None v' w w' h g x is = absurd (cc is)
both-more op (Some v) v' None w' h g x is = absurd (cc is)
both-more op (Some v) v' (Some w) w' h g x is =
    ap (λ (k : Option Value). option_and_then (λ a. option_and_then (binary op a) w') k) (h v refl)
    ∙ ap (λ (k : Option Value). option_and_then (binary op v) k) (g w refl) ∙ is

module _ {P : Type 0} (a c : P → Option Value) (more : (p : P) → More (a p) (c p)) where
  abbrev HasMore : Expr P → Type 0
  HasMore z = More (value_in a z) (value_in c z)

  opened : (l : layer.Expr-F P (Expr P)) → More (value_step a (map-Expr P (Expr P) (Option Value) (value_in a) l)) (value_step c (map-Expr P (Expr P) (Option Value) (value_in c) l)) → HasMore (roll-Expr P l)
  opened l has x is = fold-roll-Expr P (Option Value) (value_step c) l ∙ has x (sym (fold-roll-Expr P (Option Value) (value_step a) l) ∙ is)

  more_layer : (y : layer.Expr-F P ((z : Expr P) × HasMore z)) → HasMore (roll-Expr P (map-Expr P ((z : Expr P) × HasMore z) (Expr P) (λ z. z.0) y))
  more_layer (layer.Literal v) = opened (layer.Literal v) (λ x is. is)
  more_layer (layer.Path p) = opened (layer.Path p) (more p)
  more_layer (layer.Unary op x) = opened (layer.Unary op x.0) (one-more op (value_in a x.0) (value_in c x.0) x.1)
  more_layer (layer.Binary op x y) = opened (layer.Binary op x.0 y.0) (both-more op (value_in a x.0) (value_in c x.0) (value_in a y.0) (value_in c y.0) x.1 y.1)

  pub values-more : (z : Expr P) → More (value_in a z) (value_in c z)
  values-more = ind-Expr P HasMore (λ x y is. subst (λ l. HasMore (roll-Expr P l)) is (more_layer y))
