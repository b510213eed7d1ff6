-- What the steps of a path give.
use Rattle.std.proofs.Common.{◌≡◌, List, [], ◌∷◌, Option, Some, None, Result, Ok, Err, refl, sym, ◌∙◌, subst}
use Rattle.std.specs.Result.{IsErrAnd}
use Rattle.basic_types.specs.declared.value.Value.{Value}
use Rattle.meta_model.specs.declared.object.Step.{Step}
use Rattle.expressions.specs.declared.evaluation.EvalFault.{EvalFault}
use Rattle.expressions.specs.declared.evaluation.EvalFault.TheVariants.{BadType, Memory}
use Rattle.expressions.specs.Evaluation.{Evaluates}
use Rattle.object_tree.specs.declared.object.Object.{Object}
use Rattle.machine_rules.specs.Paths.{steps_value, step_value}

-- from no value no step leads on
pub steps-none : (objects : List Object) (steps : List Step) → steps_value objects steps None ≡ None
steps-none objects [] = refl
steps-none objects (s ∷ steps) = steps-none objects steps

-- what a call that failed leaves behind a `?`, where its value leads to that which is asked
pub evaluates-left : (found asked : Option Value) (e : EvalFault) (r : Result Value EvalFault) → (found ≡ None → asked ≡ None) → Evaluates found (Err e) → IsErrAnd r (λ y. y ≡ e) → Evaluates asked r
evaluates-left found asked e (Ok v) leads x is = absurd is
evaluates-left found asked e (Err f) leads x is = faulted found asked f e leads x is
  where
    faulted : (a b : Option Value) (f e : EvalFault) → (a ≡ None → b ≡ None) → Evaluates a (Err e) → f ≡ e → Evaluates b (Err f)
    faulted a b BadType BadType leads x is = leads x
    faulted a b BadType Memory leads x is = absurd (cc is)
    faulted a b Memory e leads x is = tt

-- where a step gives no value, the path has none
pub path-none : (objects : List Object) (left more : List Step) (s : Step) (found : Value) (asked : Option Value) → steps_value objects left (Some found) ≡ asked → left ≡ s ∷ more → step_value objects s found ≡ None → asked ≡ None
path-none objects left more s found asked whole split none =
    let At : List Step → Type 0 = λ l. steps_value objects l (Some found) ≡ asked in
    let here : steps_value objects more (step_value objects s found) ≡ asked = subst At split whole in
    let From : Option Value → Type 0 = λ v. steps_value objects more v ≡ asked in
    sym (subst From none here) ∙ steps-none objects more
