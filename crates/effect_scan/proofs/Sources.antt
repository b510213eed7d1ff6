-- The properties that an expression names, part by part.
use Rattle.std.proofs.Common.{◌≡◌, List, [], ◌∷◌, ◌++◌, Result, Ok, Err, sym, ap, ◌∙◌, append_assoc}
use Rattle.std.specs.Result.{OnOk}
use Rattle.std.proofs.lemmas.List.{append-nil}
use Rattle.basic_types.specs.declared.value.Value.{Value}
use Rattle.syntax_trees.specs.declared.syntax.Unary.{Unary}
use Rattle.syntax_trees.specs.declared.syntax.Binary.{Binary}
use Rattle.syntax_trees.specs.declared.syntax.Expr.{Expr}
use Rattle.syntax_trees.specs.declared.syntax.Expr.TheVariants as e
use Rattle.syntax_trees.specs.declared.syntax.Expr.TheOpen as layer
use Rattle.meta_model.specs.declared.site.SourceProperty.{SourceProperty}
use Rattle.meta_model.specs.Sites.{paths_in}
use Rattle.meta_model.proofs.PathsIn.{paths_of, paths-Path, paths-Unary, paths-Binary}

abbrev Expression : Type 0
Expression = Expr SourceProperty

pub sources_none : (z : Expression) (v : Value) (before : List SourceProperty) → z ≡ e.Literal v → before ≡ before ++ paths_in z
sources_none z v before is =
    sym (ap (λ (l : List SourceProperty). before ++ l) (ap paths_in is ∙ paths_of (e.Literal v) (layer.Literal v) (e.outs-Literal v)) ∙ append-nil before)

pub sources_one : {T E : Type 0} (r : Result T E) (z : Expression) (s : SourceProperty) (before after : List SourceProperty) → z ≡ e.Path s → OnOk r (after ≡ before ++ s ∷ []) → OnOk r (after ≡ before ++ paths_in z)
sources_one (Ok x) z s before after is pushed = pushed ∙ ap (λ (l : List SourceProperty). before ++ l) (sym (ap paths_in is ∙ paths-Path s))
sources_one (Err x) z s before after is pushed = tt

pub sources_same : {T E : Type 0} (r : Result T E) (z x y : Expression) (op : Unary) (before after : List SourceProperty) → z ≡ e.Unary op x → y ≡ x → OnOk r (after ≡ before ++ paths_in y) → OnOk r (after ≡ before ++ paths_in z)
sources_same (Ok v) z x y op before after is same given = given ∙ ap (λ (l : List SourceProperty). before ++ l) (ap paths_in same ∙ sym (ap paths_in is ∙ paths-Unary op x))
sources_same (Err v) z x y op before after is same given = tt

pub sources_both : {T E : Type 0} (r : Result T E) (z x y left right : Expression) (op : Binary) (before between after : List SourceProperty) → z ≡ e.Binary op x y → left ≡ x → right ≡ y → between ≡ before ++ paths_in left
    → OnOk r (after ≡ between ++ paths_in right) → OnOk r (after ≡ before ++ paths_in z)
sources_both (Ok v) z x y left right op before between after is l r first given =
    given ∙ ap (λ (s : List SourceProperty). s ++ paths_in right) first ∙ append_assoc before (paths_in left) (paths_in right)
    ∙ ap (λ (s : List SourceProperty). before ++ (s ++ paths_in right)) (ap paths_in l) ∙ ap (λ (s : List SourceProperty). before ++ (paths_in x ++ s)) (ap paths_in r)
    ∙ ap (λ (s : List SourceProperty). before ++ s) (sym (ap paths_in is ∙ paths-Binary op x y))
sources_both (Err v) z x y left right op before between after is l r first given = tt
