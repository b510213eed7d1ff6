-- A statement that hands its value on does what it does with what the first argument reads as.
use Rattle.std.{proofs.Common.{◌≡◌, ℕ, List, [], ◌∷◌, Option, Some, None, slice_get, sym, ap, ◌∙◌, subst}, specs.Option.{option_map, option_and_then}, proofs.lemmas.Option.{same_Some, none-some}}
use Rattle.basic_types.specs.declared.value.Value.{Value}
use Rattle.basic_types.specs.declared.value.Value.TheVariants as value
use Rattle.syntax_trees.specs.{declared.syntax.Expr.{Expr}, declared.syntax.Expr.TheViews.{roll-Expr, roll-out-Expr}, declared.syntax.Expr.TheFolds.{fold-roll-Expr}}
use Rattle.syntax_trees.specs.declared.syntax.Expr.TheOpen as expr
use Rattle.expressions.specs.Evaluation.{value_step}
use Rattle.expressions.specs.Evaluation
use Rattle.meta_model.specs.{declared.object.MetaPath.{MetaPath}, declared.object.MetaRoot.{MetaRoot}, declared.object.Step.{Step}, declared.object.Statement.{Statement}}
use Rattle.meta_model.specs.declared.object.Statement.TheOpen as layer
use Rattle.object_tree.specs.{declared.object.Object.{Object}, Seen.{seen}}
use Rattle.binding_graph.specs.Places.{property_of}
use Rattle.machine_rules.specs.{Operations.{Operation, Begin, led_to, on_object, operation_of_set, operation}, Paths.{root_value, steps_value, path_value, value_of, values_of}}
use Rattle.settling.specs.Hands.{IsCarried, PassesCarried, HandsValue}
use Rattle.settled_runs.specs.Handed.{IsDoneWith, sets, begins, nothing}

module _ (objects : List Object) (o : ℕ) (arguments : List Value) (first : Value) (at : slice_get arguments 0 ≡ Some first) where
  -- a parameter alone reads as the argument
  carried-value : (e : Expr MetaPath) → IsCarried e → value_of objects o arguments e ≡ Some (seen objects first)
  carried-value e is =
      let read : MetaPath → Option Value = path_value objects o arguments in
      ap (λ (x : Expr MetaPath). Evaluation.value read x) (sym (roll-out-Expr MetaPath e) ∙ ap (λ y. roll-Expr MetaPath y) is.is)
      ∙ fold-roll-Expr MetaPath (Option Value) (value_step read) (expr.Path is.path)
      ∙ ap (λ (steps : List Step). steps_value objects steps (option_map (seen objects) (root_value o arguments is.path.root))) is.alone
      ∙ ap (λ (root : MetaRoot). option_map (seen objects) (root_value o arguments root)) is.root
      ∙ ap (option_map (seen objects)) at

  carried-values : (es : List (Expr MetaPath)) → PassesCarried es → values_of objects o arguments es ≡ Some (seen objects first ∷ [])
  carried-values [] is = absurd is
  carried-values (e ∷ []) is =
      ap (λ (found : Option Value). option_and_then (λ (v : Value). option_map (λ (vs : List Value). v ∷ vs) (Some [])) found) (carried-value e is)
  carried-values (e ∷ f ∷ es) is = absurd is

  set-with : (q : ℕ) (done : Operation) (new : Option Value) → new ≡ Some (seen objects first) → (found : Option Value)
      → option_map operation_of_set (led_to None (λ (x : ℕ). option_map (λ (v : Value). Some (record { place = property_of x q; value = v })) new) found) ≡ Some done → IsDoneWith (seen objects first) done
  set-with q done None is found e = absurd (none-some _ is)
  set-with q done (Some v) is None e = absurd (none-some done e)
  set-with q done (Some v) is (Some (value.Ref None)) e = subst (λ (d : Operation). IsDoneWith (seen objects first) d) (same_Some _ _ e) nothing
  set-with q done (Some v) is (Some (value.Ref (Some x))) e =
      subst (λ (d : Operation). IsDoneWith (seen objects first) d)
      (ap (λ (w : Value). operation_of_set (Some (record { place = property_of x q; value = w }))) (sym (same_Some v (seen objects first) is)) ∙ same_Some _ _ e) sets
  set-with q done (Some v) is (Some (value.Int n)) e = absurd (none-some done e)
  set-with q done (Some v) is (Some (value.Bool b)) e = absurd (none-some done e)
  set-with q done (Some v) is (Some (value.Text t)) e = absurd (none-some done e)

  begin-with : (x m : ℕ) (done : Operation) (given : Option (List Value)) → given ≡ Some (seen objects first ∷ []) → option_map (λ (vs : List Value). Begin x m vs) given ≡ Some done → IsDoneWith (seen objects first) done
  begin-with x m done given is e =
      subst (λ (d : Operation). IsDoneWith (seen objects first) d) (same_Some _ _ (ap (option_map (λ (vs : List Value). Begin x m vs)) (sym is) ∙ e)) begins

  call-with : (m : ℕ) (done : Operation) (given : Option (List Value)) → given ≡ Some (seen objects first ∷ []) → (found : Option Value)
      → on_object (λ (x : ℕ). option_map (λ (vs : List Value). Begin x m vs) given) found ≡ Some done → IsDoneWith (seen objects first) done
  call-with m done given is None e = absurd (none-some done e)
  call-with m done given is (Some (value.Ref None)) e = subst (λ (d : Operation). IsDoneWith (seen objects first) d) (same_Some _ _ e) nothing
  call-with m done given is (Some (value.Ref (Some x))) e = begin-with x m done given is e
  call-with m done given is (Some (value.Int n)) e = absurd (none-some done e)
  call-with m done given is (Some (value.Bool b)) e = absurd (none-some done e)
  call-with m done given is (Some (value.Text t)) e = absurd (none-some done e)

  pub handed : (f : layer.Statement-F Statement) (done : Operation) → HandsValue f → operation objects o arguments f ≡ Some done → IsDoneWith (seen objects first) done
  handed (layer.Set path q e) done hands is = set-with q done (value_of objects o arguments e) (carried-value e hands) (path_value objects o arguments path) is
  handed (layer.Emit m es) done hands is = begin-with o m done (values_of objects o arguments es) (carried-values es hands) is
  handed (layer.Call path m es) done hands is = call-with m done (values_of objects o arguments es) (carried-values es hands) (path_value objects o arguments path) is
  handed (layer.If e block other) done hands is = absurd hands
  handed (layer.Connect ends how) done hands is = absurd hands
  handed (layer.Disconnect ends) done hands is = absurd hands
  handed (layer.Delete path) done hands is = absurd hands
  handed (layer.Later path) done hands is = absurd hands
  handed (layer.Group inner) done hands is = absurd hands
