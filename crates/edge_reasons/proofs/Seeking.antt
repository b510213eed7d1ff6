-- A search through the statements of a body, and what is in them, for the first that does something to a node.
use Rattle.std.{proofs.Common.{◌≡◌, inl, inr, ℕ, ◌+◌, ◌^◌, ◌<◌, ◌≤◌, List, [], ◌∷◌, length, get_or, take, subst, arith}, specs.declared.ops.ControlFlow.{ControlFlow}, specs.declared.ops.ControlFlow.TheVariants.{Continue, Break}}
use Rattle.syntax_trees.specs.declared.syntax.Expr.{Expr}
use Rattle.meta_model.specs.{declared.object.ValueType.{ValueType}, declared.object.MetaPath.{MetaPath}, declared.object.Statement.{Statement}, declared.object.MetaMethod.{MetaMethod}, declared.object.Work.TheVariants.{Slot}, Loaded.{Loaded}, Members.{IsMethod}}
use Rattle.meta_model.specs.declared.object.Statement.TheVariants as whole
use Rattle.name_indexes.specs.Places.{StandsFirst}
use Rattle.effect_scan.{specs.declared.node.Node.{Node}, specs.declared.node.Member.TheVariants.{Method}, proofs.Occurring.{IsPlain}}
use Rattle.edge_reasons.{specs.Order.{in_order, capped}, specs.Searches.{FirstFrom}, proofs.Walking.{none_yet, first_here, none_here, none_in_all, first_itself, none_plain, first_in_group, none_in_group, first_in_chosen, first_in_other, none_in_if}, specs.Reasons.{DoesTo, StatementDraws}, specs.code.Seeks.{Seeks}, proofs.Drawing.{leads_at, leads_chosen, leads_otherwise, leads_grouped}, proofs.Undrawn.{does_leads, plain_does, if_leads, group_leads, no_leads, leads_no_more, leads_never}}

module _ (p : Loaded) (c : ℕ) (types : List ValueType) (y : Node) where
  abbrev Does : Statement → Type 0
  Does t = DoesTo p c types t y

  -- ---- one statement after another
  pub seeks_none : (start : ℕ) → start < 2 ^ 64 → Seeks p c types [] y start (Continue start)
  seeks_none start fits = (no_leads p c types y, none_yet Does start fits)

  module _ (body : List Statement) (i : ℕ) (t : Statement) (inside : i < length body) (is : t ≡ get_or body i t) (start next n : ℕ) (before : Seeks p c types (take i body) y start (Continue next)) where
    pub seeks_here : Seeks p c types (t ∷ []) y next (Break n) → Seeks p c types body y start (Break n)
    seeks_here h = (leads_at p c types y body i t inside is h.0, first_here Does body i t inside is start next n before.1 h.1)

    pub seeks_more : Seeks p c types (t ∷ []) y next (Continue n) → Seeks p c types (take (i + 1) body) y start (Continue n)
    seeks_more h = (leads_no_more p c types y body i t inside is before.0 h.0, none_here Does body i t inside is start next n before.1 h.1)

  pub seeks_past : (body : List Statement) (i start next : ℕ) → length body ≤ i → Seeks p c types (take i body) y start (Continue next) → Seeks p c types body y start (Continue next)
  seeks_past body i start next past before = (leads_never p c types y body i past before.0, none_in_all Does body i start next past before.1)

  -- ---- one statement, with what is in it
  pub seeks_itself : (t : Statement) (start : ℕ) → start < 2 ^ 64 → DoesTo p c types t y → Seeks p c types (t ∷ []) y start (Break start)
  seeks_itself t start fits does = (does_leads p c types y t does, first_itself Does t start fits does)

  module _ (t : Statement) (start next : ℕ) (not : ¬ DoesTo p c types t y) (more : next ≡ capped (start + 1)) where
    pub seeks_plain : IsPlain t → Seeks p c types (t ∷ []) y start (Continue next)
    seeks_plain bare = (λ h. not (plain_does p c types y t bare h), none_plain Does t start next not more bare)

    module _ (sets given : List Statement) (is : t ≡ whole.Group sets) (at : given ≡ sets) where
      pub seeks_group : (r : ControlFlow ℕ ℕ) → Seeks p c types given y next r → Seeks p c types (t ∷ []) y start r
      seeks_group (Break n) h = (leads_grouped p c types y t sets given is at h.0, first_in_group Does t start next not more sets given is at n h.1)
      seeks_group (Continue n) h = (λ leads. h.0 (group_leads p c types y t sets given is at leads), none_in_group Does t start next not more sets given is at n h.1)

    module _ (x : Expr MetaPath) (block other left right : List Statement) (is : t ≡ whole.If x block other) (l : left ≡ block) (r : right ≡ other) where
      pub seeks_chosen : (n : ℕ) → Seeks p c types left y next (Break n) → Seeks p c types (t ∷ []) y start (Break n)
      seeks_chosen n h = (leads_chosen p c types y t x block other left is l h.0, first_in_chosen Does t start next not more x block other left right is l r n h.1)

      pub seeks_otherwise : (then : ℕ) (q : ControlFlow ℕ ℕ) → Seeks p c types left y next (Continue then) → Seeks p c types right y then q → Seeks p c types (t ∷ []) y start q
      seeks_otherwise then (Break n) chosen h = (leads_otherwise p c types y t x block other right is r h.0, first_in_other Does t start next not more x block other left right is l r then n chosen.1 h.1)
      seeks_otherwise then (Continue n) chosen h = (
        λ leads. elim (if_leads p c types y t x block other left right is l r leads) [ inl one ↦ chosen.0 one | inr two ↦ h.0 two ],
        none_in_if Does t start next not more x block other left right is l r then n chosen.1 h.1,
      )

-- ---- the body of a slot
module _ (p : Loaded) (x y : Node) (m : ℕ) (method : MetaMethod) (is : IsMethod p x.class m method) (from : x.member ≡ Method m) where
  pub statement_draws : (body given : List Statement) (types : List ValueType) → method.work ≡ Slot body → given ≡ body → types ≡ method.types → (number : ℕ)
      → FirstFrom (λ t. DoesTo p x.class types t y) (in_order given) 0 number → StatementDraws p x y number
  statement_draws body given types slots at typed number h = record {
    method_number = m;
    method = method;
    is = is;
    from = from;
    body = body;
    slot = slots;
    place = h.place;
    first =
        subst (λ (ks : List ValueType). StandsFirst (λ t. DoesTo p x.class ks t y) (in_order body) h.place) typed
        (subst (λ (b : List Statement). StandsFirst (λ t. DoesTo p x.class types t y) (in_order b) h.place) at h.first);
    counted = omega (arith, h.is);
  }
