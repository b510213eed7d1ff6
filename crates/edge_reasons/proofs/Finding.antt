-- A search through the statements of a body, and what is in them, for the one of a number.
use Rattle.std.proofs.Common.{◌≡◌, ℕ, ◌+◌, ◌<◌, List, [], ◌∷◌, ◌++◌, length, get_or, take, drop, slice_get, Some, sym, ap, ◌∙◌, subst, arith}
use Rattle.std.specs.Borrow.{Bor}
use Rattle.std.specs.declared.ops.ControlFlow.{ControlFlow}
use Rattle.std.specs.declared.ops.ControlFlow.TheVariants.{Continue, Break}
use Rattle.std.proofs.lemmas.List.{length-append}
use Rattle.std.proofs.lemmas.Option.{slice_get_within}
use Rattle.syntax_trees.specs.declared.syntax.Expr.{Expr}
use Rattle.meta_model.specs.declared.object.MetaPath.{MetaPath}
use Rattle.meta_model.specs.declared.object.Statement.{Statement}
use Rattle.meta_model.specs.declared.object.Statement.TheVariants as whole
use Rattle.effect_scan.proofs.Numbered.{get_left, get_right}
use Rattle.edge_reasons.specs.Order.{with_parts, in_order}
use Rattle.edge_reasons.specs.code.Finds.{Finds}
use Rattle.edge_reasons.proofs.Order.{order_opened, order_if, order_group, order_one}
use Rattle.edge_reasons.proofs.Walking.{order_parted}

-- ---- one list behind another
finds_in_left : (xs ys : List Statement) (n : ℕ) (found : Bor Statement) → Finds xs n (Break found) → Finds (xs ++ ys) n (Break found)
finds_in_left xs ys n found h = get_left xs ys n (slice_get_within xs n found.now h) ∙ h

finds_on : (xs ys : List Statement) (n left : ℕ) (r : ControlFlow (Bor Statement) ℕ) → n ≡ length xs + left → Finds ys left r → Finds (xs ++ ys) n r
finds_on xs ys n left (Break found) e h = get_right xs ys n left e ∙ h
finds_on xs ys n left (Continue rest) e h = let long = length-append xs ys in omega (arith, e, h, long)

-- ---- one statement, with what is in it
pub finds_itself : (t : Statement) (n : ℕ) → n ≡ 0 → slice_get (with_parts t) n ≡ Some t
finds_itself t n none = ap (slice_get (with_parts t)) none ∙ ap (λ (ts : List Statement). slice_get ts 0) (order_opened t)

module _ (t : Statement) (n left : ℕ) (more : n ≡ left + 1) where
  one_less : n ≡ length (t ∷ []) + left
  one_less = omega (arith, more)

  pub finds_group : (sets given : List Statement) (r : ControlFlow (Bor Statement) ℕ) → t ≡ whole.Group sets → given ≡ sets → Finds (in_order given) left r → Finds (with_parts t) n r
  finds_group sets given r is at h =
      subst (λ (ts : List Statement). Finds ts n r) (sym (order_group t sets is ∙ ap (λ (b : List Statement). t ∷ in_order b) (sym at)))
      (finds_on (t ∷ []) (in_order given) n left r one_less h)

  module _ (x : Expr MetaPath) (block other first second : List Statement) (is : t ≡ whole.If x block other) (l : first ≡ block) (r : second ≡ other) where
    in_if : with_parts t ≡ (t ∷ []) ++ (in_order first ++ in_order second)
    in_if =
        order_if t x block other is
        ∙ ap (λ (b : List Statement). t ∷ (in_order b ++ in_order other)) (sym l)
        ∙ ap (λ (b : List Statement). t ∷ (in_order first ++ in_order b)) (sym r)

    pub finds_chosen : (found : Bor Statement) → Finds (in_order first) left (Break found) → Finds (with_parts t) n (Break found)
    finds_chosen found h =
        subst (λ (ts : List Statement). Finds ts n (Break found)) (sym in_if)
        (finds_on (t ∷ []) (in_order first ++ in_order second) n left (Break found) one_less (finds_in_left (in_order first) (in_order second) left found h))

    pub finds_otherwise : (rest : ℕ) (q : ControlFlow (Bor Statement) ℕ) → Finds (in_order first) left (Continue rest) → Finds (in_order second) rest q → Finds (with_parts t) n q
    finds_otherwise rest q passed h =
        subst (λ (ts : List Statement). Finds ts n q) (sym in_if)
        (finds_on (t ∷ []) (in_order first ++ in_order second) n left q one_less (finds_on (in_order first) (in_order second) left rest q passed h))

-- ---- one statement after another
pub finds_here : (body : List Statement) (i : ℕ) (t : Statement) → i < length body → t ≡ get_or body i t → (n left : ℕ) → n ≡ length (in_order (take i body)) + left
    → (found : Bor Statement) → Finds (with_parts t) left (Break found) → Finds (in_order body) n (Break found)
finds_here body i t inside is n left passed found h =
    subst (λ (ts : List Statement). Finds ts n (Break found)) (sym (order_parted body i t inside is))
    (finds_on (in_order (take i body)) (in_order (t ∷ []) ++ in_order (drop (i + 1) body)) n left (Break found) passed
    (finds_in_left (in_order (t ∷ [])) (in_order (drop (i + 1) body)) left found (subst (λ (ts : List Statement). Finds ts left (Break found)) (sym (order_one t)) h)))
