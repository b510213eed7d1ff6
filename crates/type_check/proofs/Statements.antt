-- What the code tells of one statement, by what it is.
use Rattle.std.proofs.Common.{◌≡◌, ◌↔◌, ℕ, Bool, IsTrue, List, Result, IfOk, sym, ap, ◌∙◌, subst}
use Rattle.syntax_trees.specs.declared.syntax.Expr.{Expr}
use Rattle.meta_model.specs.declared.object.ValueType.{ValueType}
use Rattle.meta_model.specs.declared.object.MetaPath.{MetaPath}
use Rattle.meta_model.specs.declared.object.Statement.{Statement}
use Rattle.meta_model.specs.declared.object.Statement.TheOpen as layer
use Rattle.meta_model.specs.declared.object.Statement.TheViews.{out-Statement}
use Rattle.meta_model.specs.Loaded.{Loaded}
use Rattle.type_check.specs.Bodies.{IsTypedStatement}

module _ (p : Loaded) (me : ℕ) (types : List ValueType) where
  abbrev pub Tells : {E : Type 0} → Result Bool E → layer.Statement-F Statement → Type 0
  Tells r z = IfOk r (λ a. IsTrue a ↔ IsTypedStatement p me types z)

  pub told : {E : Type 0} (r : Result Bool E) (t whole : Statement) (z : layer.Statement-F Statement) → t ≡ whole → out-Statement whole ≡ z → Tells r z → Tells r (out-Statement t)
  told r t whole z is opens h = subst (λ (y : layer.Statement-F Statement). Tells r y) (sym (ap out-Statement is ∙ opens)) h

  pub told_bool : (a : Bool) (t whole : Statement) (z : layer.Statement-F Statement) → t ≡ whole → out-Statement whole ≡ z → (IsTrue a ↔ IsTypedStatement p me types z) → IsTrue a ↔ IsTypedStatement p me types (out-Statement t)
  told_bool a t whole z is opens h = subst (λ (y : layer.Statement-F Statement). IsTrue a ↔ IsTypedStatement p me types y) (sym (ap out-Statement is ∙ opens)) h

  pub told_emit : {E : Type 0} (r : Result Bool E) (m : ℕ) (es given : List (Expr MetaPath)) → given ≡ es → Tells r (layer.Emit m given) → Tells r (layer.Emit m es)
  told_emit r m es given e h = subst (λ (l : List (Expr MetaPath)). Tells r (layer.Emit m l)) e h

  pub told_call : {E : Type 0} (r : Result Bool E) (path : MetaPath) (m : ℕ) (es given : List (Expr MetaPath)) → given ≡ es → Tells r (layer.Call path m given) → Tells r (layer.Call path m es)
  told_call r path m es given e h = subst (λ (l : List (Expr MetaPath)). Tells r (layer.Call path m l)) e h
