-- What a statement needs, from what the code found out.
use Rattle.std.{proofs.Common.{◌≡◌, ◌≢◌, ℕ, Bool, true, false, if◌then◌else◌, List, Result, Ok, Err, Option, Some, None, refl, sym, ap, ◌∙◌, subst}, specs.Option.{option_map}, specs.Result.{IsErrAnd}}
use Rattle.basic_types.specs.declared.value.Value.{Value}
use Rattle.basic_types.specs.declared.value.Value.TheVariants as value
use Rattle.expressions.specs.{declared.evaluation.EvalFault.{EvalFault}, declared.evaluation.EvalFault.TheVariants.{BadType, Memory}, Evaluation.{Evaluates, EvaluatesAll}}
use Rattle.syntax_trees.specs.declared.syntax.Expr.{Expr}
use Rattle.meta_model.specs.{declared.object.MetaPath.{MetaPath}, declared.object.Statement.{Statement}, declared.object.MetaEndpoints.{MetaEndpoints}}
use Rattle.object_tree.specs.declared.object.Object.{Object}
use Rattle.machine_state.specs.declared.endpoints.Endpoints.{Endpoints}
use Rattle.run_context.specs.{declared.statements.paths.Scope.{Scope}, code.Coded.{Obtains, FindsBetween, Finds, FindsTruth}, code.Scope.{ends_in}}
use Rattle.prop_bindings.specs.declared.plans.assignment.Assignment.{Assignment}
use Rattle.binding_graph.specs.Places.{property_of}
use Rattle.machine_rules.specs.{Operations.{Operation, Choose, Nothing, led_to, on_object, on_ends, chosen_by, set_at}, Paths.{path_value, value_of}}

-- a path that leads to no object
no-object : {X : Type 0} (null : X) (act : ℕ → Option X) (found : Option Value) → ((r : Option ℕ) → found ≢ Some (value.Ref r)) → led_to null act found ≡ None
no-object null act None none = refl
no-object null act (Some (value.Ref r)) none = absurd (none r refl)
no-object null act (Some (value.Int n)) none = refl
no-object null act (Some (value.Bool b)) none = refl
no-object null act (Some (value.Text t)) none = refl

-- a condition that is no truth value
no-truth : (block other : List Statement) (found : Option Value) → ((b : Bool) → found ≢ Some (value.Bool b)) → chosen_by block other found ≡ None
no-truth block other None none = refl
no-truth block other (Some (value.Bool b)) none = absurd (none b refl)
no-truth block other (Some (value.Int n)) none = refl
no-truth block other (Some (value.Text t)) none = refl
no-truth block other (Some (value.Ref r)) none = refl

-- what a call that failed leaves behind a `?`
pub obtains-left : {X : Type 0} (found : Option X) (e : EvalFault) (r : Result X EvalFault) → (e ≡ BadType → found ≡ None) → IsErrAnd r (λ y. y ≡ e) → Obtains found r
obtains-left found e (Ok x) lacks is = absurd is
obtains-left found e (Err BadType) lacks is = lacks (sym is)
obtains-left found e (Err Memory) lacks is = tt

-- .. where two ends are looked for
pub ends-left : (scope : Scope) (ends : MetaEndpoints) (e : EvalFault) (r : Result (Option Endpoints) EvalFault) → (e ≡ BadType → (act : Endpoints → Operation) → ends_in scope act ends ≡ None) → IsErrAnd r (λ y. y ≡ e) → FindsBetween scope ends r
ends-left scope ends e (Ok d) lacks is = absurd is
ends-left scope ends e (Err BadType) lacks is = lacks (sym is)
ends-left scope ends e (Err Memory) lacks is = tt

-- ---- where a call answers that a type is wrong

pub obtains-none : {X : Type 0} {found : Option X} {f : EvalFault} → Obtains found (Err f) → f ≡ BadType → found ≡ None
obtains-none {X} {found} obtains bad = let At : EvalFault → Type 0 = λ g. Obtains found (Err g) in subst At bad obtains

pub evaluates-none : {found : Option (List Value)} {f : EvalFault} → EvaluatesAll found (Err f) → f ≡ BadType → found ≡ None
evaluates-none {found} evaluates bad = let At : EvalFault → Type 0 = λ g. EvaluatesAll found (Err g) in subst At bad evaluates

pub finds-none : {X : Type 0} (null : X) (act : ℕ → Option X) (found : Option Value) {f : EvalFault} → Finds found (Err f) → f ≡ BadType → led_to null act found ≡ None
finds-none null act found finds bad = let At : EvalFault → Type 0 = λ g. Finds found (Err g) in no-object null act found (subst At bad finds)

pub between-none : (scope : Scope) (ends : MetaEndpoints) {f : EvalFault} (act : Endpoints → Operation) → FindsBetween scope ends (Err f) → f ≡ BadType → ends_in scope act ends ≡ None
between-none scope ends act finds bad = let At : EvalFault → Type 0 = λ g. FindsBetween scope ends (Err g) in let none = subst At bad finds in none act

pub truth-none : (block other : List Statement) (found : Option Value) {f : EvalFault} → FindsTruth found (Err f) → f ≡ BadType → chosen_by block other found ≡ None
truth-none block other found judges bad = let At : EvalFault → Type 0 = λ g. FindsTruth found (Err g) in no-truth block other found (subst At bad judges)

-- no value of an expression, or of expressions
no-value : {X Y : Type 0} (act : X → Y) (found : Option X) → found ≡ None → option_map act found ≡ None
no-value act found none = ap (option_map act) none

module _ (objects : List Object) (o : ℕ) (arguments : List Value) where
  -- ---- a path to an object, and what is done with it

  module _ (act : ℕ → Option Operation) (path : MetaPath) where
    pub at-null : path_value objects o arguments path ≡ Some (value.Ref None) → on_object act (path_value objects o arguments path) ≡ Some Nothing
    at-null is = ap (on_object act) is

    pub at-object : {x : ℕ} {d : Option Operation} → path_value objects o arguments path ≡ Some (value.Ref (Some x)) → act x ≡ d → on_object act (path_value objects o arguments path) ≡ d
    at-object is does = ap (on_object act) is ∙ does

  -- ---- the objects at two ends

  -- no object at the sender's end, and none at the receiver's
  pub no-sender : (act : Endpoints → Operation) (ends : MetaEndpoints) → ((r : Option ℕ) → path_value objects o arguments ends.sender ≢ Some (value.Ref r)) → on_ends act ends (path_value objects o arguments ends.sender) (path_value objects o arguments ends.receiver) ≡ None
  no-sender act ends none = no-object Nothing _ (path_value objects o arguments ends.sender) none

  pub no-receiver : (act : Endpoints → Operation) (ends : MetaEndpoints) {x : ℕ} → path_value objects o arguments ends.sender ≡ Some (value.Ref (Some x)) → ((r : Option ℕ) → path_value objects o arguments ends.receiver ≢ Some (value.Ref r)) → on_ends act ends (path_value objects o arguments ends.sender) (path_value objects o arguments ends.receiver) ≡ None
  no-receiver act ends there none = at-object _ ends.sender there (no-object Nothing _ (path_value objects o arguments ends.receiver) none)

  -- .. null
  pub null-sender : (act : Endpoints → Operation) (ends : MetaEndpoints) → path_value objects o arguments ends.sender ≡ Some (value.Ref None) → on_ends act ends (path_value objects o arguments ends.sender) (path_value objects o arguments ends.receiver) ≡ Some Nothing
  null-sender act ends is = at-null _ ends.sender is

  pub null-receiver : (act : Endpoints → Operation) (ends : MetaEndpoints) {x : ℕ} → path_value objects o arguments ends.sender ≡ Some (value.Ref (Some x)) → path_value objects o arguments ends.receiver ≡ Some (value.Ref None) → on_ends act ends (path_value objects o arguments ends.sender) (path_value objects o arguments ends.receiver) ≡ Some Nothing
  null-receiver act ends there is = at-object _ ends.sender there (at-null _ ends.receiver is)

  -- .. objects
  pub at-ends : (act : Endpoints → Operation) (ends : MetaEndpoints) {x y : ℕ} → path_value objects o arguments ends.sender ≡ Some (value.Ref (Some x)) → path_value objects o arguments ends.receiver ≡ Some (value.Ref (Some y)) → on_ends act ends (path_value objects o arguments ends.sender) (path_value objects o arguments ends.receiver) ≡ Some (act (record { sender = x; signal = ends.signal; receiver = y; method = ends.method }))
  at-ends act ends there is = at-object _ ends.sender there (at-object _ ends.receiver is refl)

  -- ---- statements

  -- a set, which writes a value, or nothing on null
  abbrev set-act : ℕ → Expr MetaPath → ℕ → Option (Option Assignment)
  set-act q e x = option_map (λ (new : Value). Some (record { place = property_of x q; value = new })) (value_of objects o arguments e)

  pub set-no-target : (path : MetaPath) (q : ℕ) (e : Expr MetaPath) (f : EvalFault) (r : Result (Option Assignment) EvalFault) → Finds (path_value objects o arguments path) (Err f) → IsErrAnd r (λ y. y ≡ f) → Obtains (set_at objects o arguments path q e) r
  set-no-target path q e f r finds is =
      let found : Option Value = path_value objects o arguments path in
      let At : EvalFault → Type 0 = λ g. Finds found (Err g) in
      obtains-left (set_at objects o arguments path q e) f r (λ bad. no-object None (set-act q e) found (subst At bad finds)) is

  pub set-nothing : (path : MetaPath) (q : ℕ) (e : Expr MetaPath) → path_value objects o arguments path ≡ Some (value.Ref None) → set_at objects o arguments path q e ≡ Some None
  set-nothing path q e is = ap (led_to None (set-act q e)) is

  pub set-no-value : (path : MetaPath) (q : ℕ) (e : Expr MetaPath) (x : ℕ) (f : EvalFault) (r : Result (Option Assignment) EvalFault) → path_value objects o arguments path ≡ Some (value.Ref (Some x)) → Evaluates (value_of objects o arguments e) (Err f) → IsErrAnd r (λ y. y ≡ f) → Obtains (set_at objects o arguments path q e) r
  set-no-value path q e x f r there evaluates is =
      let At : EvalFault → Type 0 = λ g. Evaluates (value_of objects o arguments e) (Err g) in
      obtains-left (set_at objects o arguments path q e) f r
      (λ bad. ap (led_to None (set-act q e)) there ∙ no-value (λ (new : Value). Some (record { place = property_of x q; value = new })) (value_of objects o arguments e) (subst At bad evaluates)) is

  pub set-writes : (path : MetaPath) (q : ℕ) (e : Expr MetaPath) {x : ℕ} {new : Value} → path_value objects o arguments path ≡ Some (value.Ref (Some x)) → value_of objects o arguments e ≡ Some new → set_at objects o arguments path q e ≡ Some (Some (record { place = property_of x q; value = new }))
  set-writes path q e {x} there gives = ap (led_to None (set-act q e)) there ∙ ap (option_map (λ (new : Value). Some (record { place = property_of x q; value = new }))) gives

  -- the block that a condition chooses
  pub if-chooses : (e : Expr MetaPath) (block other chosen : List Statement) {holds : Bool} → value_of objects o arguments e ≡ Some (value.Bool holds) → chosen ≡ (if holds then block else other) → chosen_by block other (value_of objects o arguments e) ≡ Some (Choose chosen)
  if-chooses e block other chosen {holds} gives is = ap (chosen_by block other) gives ∙ chosen-is holds ∙ ap (λ (l : List Statement). Some (Choose l)) (sym is)
    where
      chosen-is : (holds : Bool) → chosen_by block other (Some (value.Bool holds)) ≡ Some (Choose (if holds then block else other))
      chosen-is true = refl
      chosen-is false = refl
