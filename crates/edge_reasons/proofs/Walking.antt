-- A search through the statements of a body, and what is in them, for the first with P.
use Rattle.std.proofs.Common.{◌≡◌, ℕ, ◌+◌, ◌^◌, ◌<◌, ◌≤◌, List, [], ◌∷◌, ◌++◌, length, get_or, take, drop, sym, ap, ◌∙◌, subst}
use Rattle.std.proofs.lemmas.List.{take_more, take_all, take-append-drop, drop_more}
use Rattle.syntax_trees.specs.declared.syntax.Expr.{Expr}
use Rattle.meta_model.specs.declared.object.MetaPath.{MetaPath}
use Rattle.meta_model.specs.declared.object.Statement.{Statement}
use Rattle.meta_model.specs.declared.object.Statement.TheVariants as whole
use Rattle.effect_scan.proofs.Occurring.{IsPlain}
use Rattle.edge_reasons.specs.Order.{in_order, capped}
use Rattle.edge_reasons.specs.Searches.{FirstFrom, NoneFrom}
use Rattle.edge_reasons.proofs.Order.{parts_of, order_opened, order_if, order_group, order_plain, order_append, order_one}
use Rattle.edge_reasons.proofs.Searching.{first_then, none_then_first, none_then_none, none_of_none, first_of_all, none_at_one}

-- ---- a body by one of its statements
module _ (body : List Statement) (i : ℕ) (t : Statement) (inside : i < length body) (is : t ≡ get_or body i t) where
  pub order_parted : in_order body ≡ in_order (take i body) ++ (in_order (t ∷ []) ++ in_order (drop (i + 1) body))
  order_parted =
      let rest : drop i body ≡ (t ∷ []) ++ drop (i + 1) body = drop_more body i t inside ∙ ap (λ (z : Statement). z ∷ drop (i + 1) body) (sym is) in
      ap in_order (sym (take-append-drop i body) ∙ ap (λ (ts : List Statement). take i body ++ ts) rest)
      ∙ order_append (take i body) ((t ∷ []) ++ drop (i + 1) body)
      ∙ ap (λ (ts : List Statement). in_order (take i body) ++ ts) (order_append (t ∷ []) (drop (i + 1) body))

  order_more : in_order (take (i + 1) body) ≡ in_order (take i body) ++ in_order (t ∷ [])
  order_more =
      ap in_order (take_more body i t inside ∙ ap (λ (z : Statement). take i body ++ z ∷ []) (sym is)) ∙ order_append (take i body) (t ∷ [])

module _ (P : Statement → Type 0) where
  -- ---- one statement after another
  pub none_yet : (start : ℕ) → start < 2 ^ 64 → NoneFrom P (in_order []) start start
  none_yet start fits = none_of_none P start fits

  module _ (body : List Statement) (i : ℕ) (t : Statement) (inside : i < length body) (is : t ≡ get_or body i t) (start next n : ℕ) (before : NoneFrom P (in_order (take i body)) start next) where
    pub first_here : FirstFrom P (in_order (t ∷ [])) next n → FirstFrom P (in_order body) start n
    first_here h =
        subst (λ (ts : List Statement). FirstFrom P ts start n) (sym (order_parted body i t inside is))
        (none_then_first P (in_order (take i body)) (in_order (t ∷ []) ++ in_order (drop (i + 1) body)) start next n before (first_then P (in_order (t ∷ [])) (in_order (drop (i + 1) body)) next n h))

    pub none_here : NoneFrom P (in_order (t ∷ [])) next n → NoneFrom P (in_order (take (i + 1) body)) start n
    none_here h =
        subst (λ (ts : List Statement). NoneFrom P ts start n) (sym (order_more body i t inside is))
        (none_then_none P (in_order (take i body)) (in_order (t ∷ [])) start next n before h)

  pub none_in_all : (body : List Statement) (i start next : ℕ) → length body ≤ i → NoneFrom P (in_order (take i body)) start next → NoneFrom P (in_order body) start next
  none_in_all body i start next past before = subst (λ (ts : List Statement). NoneFrom P (in_order ts) start next) (take_all i body past) before

  -- ---- one statement, with what is in it
  pub first_itself : (t : Statement) (start : ℕ) → start < 2 ^ 64 → P t → FirstFrom P (in_order (t ∷ [])) start start
  first_itself t start fits has =
      subst (λ (ts : List Statement). FirstFrom P ts start start) (sym (order_one t ∙ order_opened t)) (first_of_all P t (parts_of t) start fits has)

  module _ (t : Statement) (start next : ℕ) (not : ¬ P t) (more : next ≡ capped (start + 1)) where
    ahead : NoneFrom P (t ∷ []) start next
    ahead = none_at_one P t start next not more

    pub none_plain : IsPlain t → NoneFrom P (in_order (t ∷ [])) start next
    none_plain bare = subst (λ (ts : List Statement). NoneFrom P ts start next) (sym (order_one t ∙ order_plain t bare)) ahead

    module _ (sets given : List Statement) (is : t ≡ whole.Group sets) (at : given ≡ sets) (n : ℕ) where
      in_group : in_order (t ∷ []) ≡ (t ∷ []) ++ in_order given
      in_group = order_one t ∙ order_group t sets is ∙ ap (λ (b : List Statement). t ∷ in_order b) (sym at)

      pub first_in_group : FirstFrom P (in_order given) next n → FirstFrom P (in_order (t ∷ [])) start n
      first_in_group h =
          subst (λ (ts : List Statement). FirstFrom P ts start n) (sym in_group) (none_then_first P (t ∷ []) (in_order given) start next n ahead h)

      pub none_in_group : NoneFrom P (in_order given) next n → NoneFrom P (in_order (t ∷ [])) start n
      none_in_group h =
          subst (λ (ts : List Statement). NoneFrom P ts start n) (sym in_group) (none_then_none P (t ∷ []) (in_order given) start next n ahead h)

    module _ (x : Expr MetaPath) (block other left right : List Statement) (is : t ≡ whole.If x block other) (l : left ≡ block) (r : right ≡ other) where
      in_if : in_order (t ∷ []) ≡ (t ∷ []) ++ (in_order left ++ in_order right)
      in_if =
          order_one t ∙ order_if t x block other is
          ∙ ap (λ (b : List Statement). t ∷ (in_order b ++ in_order other)) (sym l)
          ∙ ap (λ (b : List Statement). t ∷ (in_order left ++ in_order b)) (sym r)

      pub first_in_chosen : (n : ℕ) → FirstFrom P (in_order left) next n → FirstFrom P (in_order (t ∷ [])) start n
      first_in_chosen n h =
          subst (λ (ts : List Statement). FirstFrom P ts start n) (sym in_if)
          (none_then_first P (t ∷ []) (in_order left ++ in_order right) start next n ahead (first_then P (in_order left) (in_order right) next n h))

      module _ (then n : ℕ) (chosen : NoneFrom P (in_order left) next then) where
        pub first_in_other : FirstFrom P (in_order right) then n → FirstFrom P (in_order (t ∷ [])) start n
        first_in_other h =
            subst (λ (ts : List Statement). FirstFrom P ts start n) (sym in_if)
            (none_then_first P (t ∷ []) (in_order left ++ in_order right) start next n ahead (none_then_first P (in_order left) (in_order right) next then n chosen h))

        pub none_in_if : NoneFrom P (in_order right) then n → NoneFrom P (in_order (t ∷ [])) start n
        none_in_if h =
            subst (λ (ts : List Statement). NoneFrom P ts start n) (sym in_if)
            (none_then_none P (t ∷ []) (in_order left ++ in_order right) start next n ahead (none_then_none P (in_order left) (in_order right) next then n chosen h))
