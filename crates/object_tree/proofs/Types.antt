-- Which lists of values have the types of a list.
use Rattle.std.specs.Bool.{◌==◌}
use Rattle.std.proofs.lemmas.Bool.{eqb-true}
use Rattle.std.proofs.Common.{◌≡◌, Bool, ◌↔◌, IsTrue, List, [], ◌∷◌, length, sym, ◌∙◌, subst, arith}
use Rattle.basic_types.specs.declared.value.Value.{Value}
use Rattle.meta_model.specs.declared.object.ValueType.{ValueType}
use Rattle.meta_model.specs.Loaded.{Loaded}
use Rattle.object_tree.specs.declared.object.Object.{Object}
use Rattle.object_tree.specs.Typed.{ReadsAs, ReadAs}

module _ (p : Loaded) (objects : List Object) {Before : Type 0} where
  -- the first value has the first type, and the others decide
  pub typed-on : {rest after : List Value} {left more : List ValueType} {v : Value} {k : ValueType} → rest ≡ v ∷ after → left ≡ k ∷ more → ReadsAs p objects v k → Before ↔ ReadAs p objects rest left → Before ↔ ReadAs p objects after more
  typed-on {rest} {after} {left} {more} {v} {k} e f reads h =
      let Of : List Value → Type 0 = λ l. Before ↔ ReadAs p objects l left in
      let As : List ValueType → Type 0 = λ l. Before ↔ ReadAs p objects (v ∷ after) l in
      let both : As (k ∷ more) = subst As f (subst Of e h) in
      (λ t. (both.0 t).1, λ t. both.1 (reads, t))

  -- no type is left
  pub typed-end : {answer : Bool} (rest : List Value) (left : List ValueType) → length left ≡ 0 → answer ≡ (length rest == 0) → Before ↔ ReadAs p objects rest left → IsTrue answer ↔ Before
  typed-end rest (k ∷ left) none is h = absurd (omega (arith, none))
  typed-end [] [] none is h = (λ _. h.1 tt, λ _. is)
  typed-end (v ∷ rest) [] none is h =
      (λ t. let e : length (v ∷ rest) ≡ 0 = eqb-true _ _ (sym is ∙ t) in absurd (omega (arith, e)), λ all. absurd (h.0 all))
