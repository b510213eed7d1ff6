-- Binding sites: the properties and the values that their expressions name, and loaded sites by name (docs/language.md,
-- "Names" and "Bindings").
use Rattle.std.specs.Prelude.{◌≡◌, ℕ, List, [], ◌∷◌, ◌++◌}
use Rattle.basic_types.specs.declared.value.Value.{Value}
use Rattle.syntax_trees.specs.declared.syntax.Expr.{Expr}
use Rattle.syntax_trees.specs.declared.syntax.Expr.TheOpen as layer
use Rattle.syntax_trees.specs.declared.syntax.Expr.TheFolds.{fold-Expr}
use Rattle.meta_model.specs.declared.site.MetaSite.{MetaSite}
use Rattle.meta_model.specs.Loaded.{Loaded}
use Rattle.name_indexes.specs.Places.{StandsAt}

-- ---- what expressions name
abbrev pub paths_step : {P : Type 0} → layer.Expr-F P (List P) → List P
paths_step (layer.Literal v) = []
paths_step (layer.Path p) = p ∷ []
paths_step (layer.Unary op ps) = ps
paths_step (layer.Binary op ps qs) = ps ++ qs

-- the paths of an expression, from left to right
abbrev pub paths_in : {P : Type 0} → Expr P → List P
paths_in {P} = fold-Expr P (List P) paths_step

abbrev pub literals_step : {P : Type 0} → layer.Expr-F P (List Value) → List Value
literals_step (layer.Literal v) = v ∷ []
literals_step (layer.Path p) = []
literals_step (layer.Unary op vs) = vs
literals_step (layer.Binary op vs ws) = vs ++ ws

-- the literals of an expression, from left to right
abbrev pub literals_in : {P : Type 0} → Expr P → List Value
literals_in {P} = fold-Expr P (List Value) literals_step

-- ---- loaded sites, by name
pub record IsSiteNamed (p : Loaded) (name : List ℕ) (number : ℕ) : Type 0 where
  pub is : StandsAt (λ (site : MetaSite). site.name ≡ name) p.sites number
