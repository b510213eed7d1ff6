-- Bodies that are judged one statement after another.
use Rattle.std.{proofs.Common.{◌≡◌, ℕ, ◌+◌, ◌^◌, ◌<◌, ◌≤◌, List, [], ◌∷◌, length, get_or, take, Option, Some, refl, sym, ap, ◌∙◌, subst, arith}, specs.declared.ops.ControlFlow.{ControlFlow}, specs.declared.ops.ControlFlow.TheVariants.{Continue, Break}}
use Rattle.syntax_trees.specs.declared.syntax.Expr.{Expr}
use Rattle.meta_model.specs.{declared.object.ValueType.{ValueType}, declared.object.MetaPath.{MetaPath}, declared.object.MetaMethod.{MetaMethod}, declared.object.Statement.{Statement}, declared.object.Statement.TheViews.{out-Statement}, declared.object.Work.TheVariants.{Slot}, Loaded.{Loaded}, Members.{IsMethod}}
use Rattle.meta_model.specs.declared.object.Statement.TheVariants as whole
use Rattle.name_indexes.specs.Places.{StandsFirst}
use Rattle.effect_scan.proofs.Occurring.{IsPlain}
use Rattle.edge_reasons.{specs.Order.{in_order, capped}, specs.Searches.{FirstFrom}, proofs.Walking.{first_here, none_here, none_in_all, first_itself, none_plain, first_in_group, none_in_group, first_in_chosen, first_in_other, none_in_if}}
use Rattle.type_check.{specs.declared.flaws.TypeFlaw.{TypeFlaw}, specs.Bodies.{IsTypedStatement, IsUntyped, IsTypedBody}, specs.Typed.{IsUntypedStatement}, specs.code.Judging.{IsFirstFlaw, Judges}, proofs.Blocks.{body_more, body_all, body_at, whole_of, plain, first_block, second_block, both_blocks, its_sets, in_group}}

module _ (p : Loaded) (me : ℕ) (types : List ValueType) where
  abbrev Untyped : Statement → Type 0
  Untyped t = IsUntyped p me types t

  moved : (xs ys : List Statement) (start next : ℕ) (told : Option ℕ) → ((n : ℕ) → FirstFrom Untyped (in_order xs) next n → FirstFrom Untyped (in_order ys) start n) → IsFirstFlaw p me types xs next told → IsFirstFlaw p me types ys start told
  moved xs ys start next told on h = record { number = h.number; is = h.is; first = on h.number h.first }

  -- ---- one statement after another
  module _ (body : List Statement) (i : ℕ) (t : Statement) (inside : i < length body) (is : t ≡ get_or body i t) (start next : ℕ) (before : Judges p me types (take i body) start (Continue next)) where
    pub judges_here : (flaw : TypeFlaw) → Judges p me types (t ∷ []) next (Break flaw) → Judges p me types body start (Break flaw)
    judges_here flaw h = (
      λ typed. h.0 (body_at p me types body i t inside is typed),
      moved (t ∷ []) body start next flaw.statement (λ n. first_here Untyped body i t inside is start next n before.1) h.1,
    )

    pub judges_more : (n : ℕ) → Judges p me types (t ∷ []) next (Continue n) → Judges p me types (take (i + 1) body) start (Continue n)
    judges_more n h = (body_more p me types body i t inside is before.0 h.0, none_here Untyped body i t inside is start next n before.1 h.1)

  pub judges_past : (body : List Statement) (i start next : ℕ) → length body ≤ i → Judges p me types (take i body) start (Continue next) → Judges p me types body start (Continue next)
  judges_past body i start next past before = (body_all p me types body i past before.0, none_in_all Untyped body i start next past before.1)

  -- ---- one statement, with what is in it
  pub judges_itself : (t : Statement) (start : ℕ) → start < 2 ^ 64 → ¬ IsTypedStatement p me types (out-Statement t) → (¬ IsTypedBody p me types (t ∷ [])) × IsFirstFlaw p me types (t ∷ []) start (Some start)
  judges_itself t start fits not = (λ typed. not (whole_of p me types t typed), record { number = start; is = refl; first = first_itself Untyped t start fits not })

  module _ (t : Statement) (start next : ℕ) (typed : IsTypedStatement p me types (out-Statement t)) (more : next ≡ capped (start + 1)) where
    not : ¬ Untyped t
    not untyped = untyped typed

    pub judges_plain : IsPlain t → Judges p me types (t ∷ []) start (Continue next)
    judges_plain bare = (plain p me types t bare typed, none_plain Untyped t start next not more bare)

    module _ (sets given : List Statement) (is : t ≡ whole.Group sets) (at : given ≡ sets) where
      pub judges_group : (r : ControlFlow TypeFlaw ℕ) → Judges p me types given next r → Judges p me types (t ∷ []) start r
      judges_group (Break flaw) h = (
        λ all. h.0 (subst (λ (b : List Statement). IsTypedBody p me types b) (sym at) (its_sets p me types t sets is all)),
        moved given (t ∷ []) start next flaw.statement (λ n. first_in_group Untyped t start next not more sets given is at n) h.1,
      )
      judges_group (Continue n) h = (
        in_group p me types t sets is typed (subst (λ (b : List Statement). IsTypedBody p me types b) at h.0),
        none_in_group Untyped t start next not more sets given is at n h.1,
      )

    module _ (x : Expr MetaPath) (block other left right : List Statement) (is : t ≡ whole.If x block other) (l : left ≡ block) (r : right ≡ other) where
      pub judges_chosen : (flaw : TypeFlaw) → Judges p me types left next (Break flaw) → Judges p me types (t ∷ []) start (Break flaw)
      judges_chosen flaw h = (
        λ all. h.0 (subst (λ (b : List Statement). IsTypedBody p me types b) (sym l) (first_block p me types t x block other is all)),
        moved left (t ∷ []) start next flaw.statement (λ n. first_in_chosen Untyped t start next not more x block other left right is l r n) h.1,
      )

      pub judges_other : (then : ℕ) (q : ControlFlow TypeFlaw ℕ) → Judges p me types left next (Continue then) → Judges p me types right then q → Judges p me types (t ∷ []) start q
      judges_other then (Break flaw) chosen h = (
        λ all. h.0 (subst (λ (b : List Statement). IsTypedBody p me types b) (sym r) (second_block p me types t x block other is all)),
        moved right (t ∷ []) start then flaw.statement (λ n. first_in_other Untyped t start next not more x block other left right is l r then n chosen.1) h.1,
      )
      judges_other then (Continue n) chosen h = (
        both_blocks p me types t x block other is typed (subst (λ (b : List Statement). IsTypedBody p me types b) l chosen.0) (subst (λ (b : List Statement). IsTypedBody p me types b) r h.0),
        none_in_if Untyped t start next not more x block other left right is l r then n chosen.1 h.1,
      )

-- ---- the body of a slot
pub untyped_statement : (p : Loaded) (c m : ℕ) (method : MetaMethod) → IsMethod p c m method → (body given : List Statement) (types : List ValueType) → method.work ≡ Slot body → given ≡ body → types ≡ method.types → (told : Option ℕ)
    → IsFirstFlaw p c types given 0 told → IsUntypedStatement p c m told
untyped_statement p c m method is body given types slots at typed told h = record {
  method = method;
  is = is;
  body = body;
  slot = slots;
  place = h.first.place;
  first =
      subst (λ (ks : List ValueType). StandsFirst (IsUntyped p c ks) (in_order body) h.first.place) typed
      (subst (λ (b : List Statement). StandsFirst (IsUntyped p c types) (in_order b) h.first.place) at h.first.first);
  counted =
      let from : capped (0 + h.first.place) ≡ capped h.first.place = ap capped (omega arith) in
      h.is ∙ ap (λ (n : ℕ). Some n) (h.first.is ∙ from);
}
