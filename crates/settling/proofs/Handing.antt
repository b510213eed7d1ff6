-- Whether the statements of a body hand on, one statement after another.
use Rattle.std.proofs.Common.{◌≡◌, ◌↔◌, ℕ, zero, suc, ◌+◌, ◌<◌, ◌≤◌, Bool, true, false, IsTrue, true≢false, not, List, [], ◌∷◌, ◌++◌, length, get_or, take, slice_get, Some, refl, sym, ap, ◌∙◌, subst}
use Rattle.std.proofs.lemmas.List.{take_more, take_all}
use Rattle.std.proofs.lemmas.Option.{none-some, same_Some, slice_get_read}
use Rattle.syntax_trees.specs.declared.syntax.Expr.{Expr}
use Rattle.meta_model.specs.declared.object.MetaPath.{MetaPath}
use Rattle.meta_model.specs.declared.object.Statement.{Statement}
use Rattle.meta_model.specs.declared.object.Statement.TheOpen as layer
use Rattle.meta_model.specs.declared.object.Statement.TheViews.{out-Statement}
use Rattle.meta_model.specs.declared.object.Statement.TheVariants as whole
use Rattle.meta_model.specs.declared.object.ValueType.{ValueType}
use Rattle.meta_model.specs.Loaded.{Loaded}
use Rattle.effect_scan.specs.declared.node.Node.{Node}
use Rattle.effect_scan.specs.Effects.{effect_of, here, after, chosen, otherwise, grouped}
use Rattle.effect_scan.proofs.Occurring.{IsPlain, no_blocks}
use Rattle.settling.specs.Hands.{HandsValue}
use Rattle.settling.specs.code.Bodies.{DoesTo, MayDo, BodyHands}

pub no : {A : Type 0} → ¬ A → IsTrue false ↔ A
no none = (λ h. absurd (true≢false (sym h)), λ h. absurd (none h))

module _ (p : Loaded) (c : ℕ) (types : List ValueType) (y : Node) where
  abbrev Hands : Bool → List Statement → Type 0
  Hands g body = BodyHands p c types g body y

  abbrev Does : Statement → Type 0
  Does t = DoesTo p c types t y

  -- ---- one statement after another

  pub hands_none : (g : Bool) → Hands g []
  hands_none g t o d = elim o [ ]

  hands_append : (g : Bool) (xs ys : List Statement) → Hands g xs → Hands g ys → Hands g (xs ++ ys)
  hands_append g [] ys first then t o d = then t o d
  hands_append true (x ∷ xs) ys first then t here d = first t here d
  hands_append false (x ∷ xs) ys first then t here d = first t here d
  hands_append true (x ∷ xs) ys first then t (after o) d = hands_append true xs ys (λ s i e. first s (after i) e) then t o d
  hands_append false (x ∷ xs) ys first then t (after o) d = hands_append false xs ys (λ s i e. first s (after i) e) then t o d
  hands_append true (x ∷ xs) ys first then t (chosen is o) d = first t (chosen is o) d
  hands_append false (x ∷ xs) ys first then t (chosen is o) d = first t (chosen is o) d
  hands_append true (x ∷ xs) ys first then t (otherwise is o) d = first t (otherwise is o) d
  hands_append false (x ∷ xs) ys first then t (otherwise is o) d = first t (otherwise is o) d
  hands_append true (x ∷ xs) ys first then t (grouped is o) d = first t (grouped is o) d
  hands_append false (x ∷ xs) ys first then t (grouped is o) d = first t (grouped is o) d

  pub hands_more : (g : Bool) (body : List Statement) (i : ℕ) (t : Statement) → i < length body → t ≡ get_or body i t → Hands g (take i body) → Hands g (t ∷ []) → Hands g (take (i + 1) body)
  hands_more g body i t inside is before now =
      let more : take (i + 1) body ≡ take i body ++ t ∷ [] = take_more body i t inside ∙ ap (λ (z : Statement). take i body ++ z ∷ []) (sym is) in
      subst (λ (l : List Statement). Hands g l) (sym more) (hands_append g (take i body) (t ∷ []) before now)

  pub hands_all : (g : Bool) (body : List Statement) (i : ℕ) → length body ≤ i → Hands g (take i body) → Hands g body
  hands_all g body i past before = subst (λ (l : List Statement). Hands g l) (take_all i body past) before

  -- what hands on does so in its first statement, and in each
  hands_first : (g : Bool) (x : Statement) (xs : List Statement) → Hands g (x ∷ xs) → Hands g (x ∷ [])
  hands_first true x xs all t here d = all t here d
  hands_first false x xs all t here d = all t here d
  hands_first g x xs all t (after o) d = elim o [ ]
  hands_first true x xs all t (chosen is o) d = all t (chosen is o) d
  hands_first false x xs all t (chosen is o) d = all t (chosen is o) d
  hands_first true x xs all t (otherwise is o) d = all t (otherwise is o) d
  hands_first false x xs all t (otherwise is o) d = all t (otherwise is o) d
  hands_first true x xs all t (grouped is o) d = all t (grouped is o) d
  hands_first false x xs all t (grouped is o) d = all t (grouped is o) d

  hands_rest : (g : Bool) (x : Statement) (xs : List Statement) → Hands g (x ∷ xs) → Hands g xs
  hands_rest true x xs all t o d = all t (after o) d
  hands_rest false x xs all t o d = all t (after o) d

  hands_each : (g : Bool) (body : List Statement) (i : ℕ) (t : Statement) → slice_get body i ≡ Some t → Hands g body → Hands g (t ∷ [])
  hands_each g [] i t e all = absurd (none-some t e)
  hands_each g (x ∷ xs) zero t e all = subst (λ (z : Statement). Hands g (z ∷ [])) (same_Some _ _ e) (hands_first g x xs all)
  hands_each g (x ∷ xs) (suc i) t e all = hands_each g xs i t e (hands_rest g x xs all)

  pub hands_at : (g : Bool) (body : List Statement) (i : ℕ) (t : Statement) → i < length body → t ≡ get_or body i t → Hands g body → Hands g (t ∷ [])
  hands_at g body i t inside is all = hands_each g body i t (slice_get_read body (length body) i t refl inside is) all

  -- ---- one statement, with what is in it

  -- by its parts an `if` and a group do nothing by themselves
  parts_if : (t : Statement) (x : Expr MetaPath) (block other : List Statement) → out-Statement t ≡ layer.If x block other → ¬ Does t
  parts_if t x block other is d = none-some _ (sym (ap (effect_of types) is) ∙ d.is)

  parts_group : (t : Statement) (sets : List Statement) → out-Statement t ≡ layer.Group sets → ¬ Does t
  parts_group t sets is d = none-some _ (sym (ap (effect_of types) is) ∙ d.is)

  module _ (t : Statement) (x : Expr MetaPath) (block other left right : List Statement) (is : t ≡ whole.If x block other) (l : left ≡ block) (r : right ≡ other) where
    open_if : out-Statement t ≡ layer.If x block other
    open_if = ap out-Statement is ∙ whole.outs-If x block other

    same_parts : (e : Expr MetaPath) (one two : List Statement) → out-Statement t ≡ layer.If e one two → (left ≡ one) × (right ≡ two)
    same_parts e one two at = let both : layer.If x block other ≡ layer.If e one two = sym open_if ∙ at in
        let first : block ≡ one = cc both in
        let second : other ≡ two = cc both in
        (l ∙ first, r ∙ second)

    no_group : (sets : List Statement) → out-Statement t ≡ layer.Group sets → ⊥
    no_group sets at = let both : layer.If x block other ≡ layer.Group sets = sym open_if ∙ at in absurd (cc both)

    pub hands_if : (g : Bool) → Hands g left → Hands g right → Hands g (t ∷ [])
    hands_if g one two s here d = absurd (parts_if t x block other open_if d)
    hands_if g one two s (after o) d = elim o [ ]
    hands_if true one two s (chosen {e = e} {block = a} {other = b} at o) d =
        subst (λ (z : List Statement). Hands true z) (same_parts e a b at).0 one s o d
    hands_if false one two s (chosen {e = e} {block = a} {other = b} at o) d =
        subst (λ (z : List Statement). Hands false z) (same_parts e a b at).0 one s o d
    hands_if true one two s (otherwise {e = e} {block = a} {other = b} at o) d =
        subst (λ (z : List Statement). Hands true z) (same_parts e a b at).1 two s o d
    hands_if false one two s (otherwise {e = e} {block = a} {other = b} at o) d =
        subst (λ (z : List Statement). Hands false z) (same_parts e a b at).1 two s o d
    hands_if g one two s (grouped {sets = sets} at o) d = absurd (no_group sets at)

    pub hands_chosen : (g : Bool) → Hands g (t ∷ []) → Hands g left
    hands_chosen g all = subst (λ (z : List Statement). Hands g z) (sym l) (in_block g all)
      where
        in_block : (g : Bool) → Hands g (t ∷ []) → Hands g block
        in_block true all s o d = all s (chosen open_if o) d
        in_block false all s o d = all s (chosen open_if o) d

    pub hands_otherwise : (g : Bool) → Hands g (t ∷ []) → Hands g right
    hands_otherwise g all = subst (λ (z : List Statement). Hands g z) (sym r) (in_other g all)
      where
        in_other : (g : Bool) → Hands g (t ∷ []) → Hands g other
        in_other true all s o d = all s (otherwise open_if o) d
        in_other false all s o d = all s (otherwise open_if o) d

  module _ (t : Statement) (sets given : List Statement) (is : t ≡ whole.Group sets) (at : given ≡ sets) where
    open_group : out-Statement t ≡ layer.Group sets
    open_group = ap out-Statement is ∙ whole.outs-Group sets

    same_sets : (others : List Statement) → out-Statement t ≡ layer.Group others → given ≡ others
    same_sets others e = let both : layer.Group sets ≡ layer.Group others = sym open_group ∙ e in
        let same : sets ≡ others = cc both in
        at ∙ same

    no_if : (e : Expr MetaPath) (one two : List Statement) → out-Statement t ≡ layer.If e one two → ⊥
    no_if e one two f = let both : layer.Group sets ≡ layer.If e one two = sym open_group ∙ f in absurd (cc both)

    pub hands_group : (g : Bool) → Hands true given → Hands g (t ∷ [])
    hands_group g none s here d = absurd (parts_group t sets open_group d)
    hands_group g none s (after o) d = elim o [ ]
    hands_group g none s (chosen {e = e} {block = a} {other = b} f o) d = absurd (no_if e a b f)
    hands_group g none s (otherwise {e = e} {block = a} {other = b} f o) d = absurd (no_if e a b f)
    hands_group g none s (grouped {sets = others} f o) d =
        absurd (subst (λ (z : List Statement). Hands true z) (same_sets others f) none s o d)

    pub group_hands : (g : Bool) → Hands g (t ∷ []) → Hands true given
    group_hands g all = subst (λ (z : List Statement). Hands true z) (sym at) (in_sets g all)
      where
        in_sets : (g : Bool) → Hands g (t ∷ []) → Hands true sets
        in_sets true all s o d = all s (grouped open_group o) d
        in_sets false all s o d = (all s (grouped open_group o) d).1

  module _ (t : Statement) (bare : IsPlain t) where
    hands_by : (g : Bool) → (Does t → MayDo g (here {s = t} {rest = []})) → Hands g (t ∷ [])
    hands_by g itself s here d = itself d
    hands_by g itself s (after o) d = elim o [ ]
    hands_by g itself s (chosen {e = e} {block = a} {other = b} f o) d = absurd ((no_blocks t bare).0 e a b f)
    hands_by g itself s (otherwise {e = e} {block = a} {other = b} f o) d = absurd ((no_blocks t bare).0 e a b f)
    hands_by g itself s (grouped {sets = sets} f o) d = absurd ((no_blocks t bare).1 sets f)

    pub hands_nothing : (g : Bool) → ¬ Does t → Hands g (t ∷ [])
    hands_nothing g none = hands_by g (λ d. absurd (none d))

    pub hands_itself : HandsValue (out-Statement t) → Hands false (t ∷ [])
    hands_itself value = hands_by false (λ d. (value, tt))

  pub value_handed : (t : Statement) → Does t → Hands false (t ∷ []) → HandsValue (out-Statement t)
  value_handed t d all = (all t here d).0

  pub none_grouped : (t : Statement) → Does t → ¬ Hands true (t ∷ [])
  none_grouped t d all = all t here d

  pub value_decides : (g v : Bool) (t : Statement) → IsPlain t → Does t → g ≡ false → IsTrue v ↔ HandsValue (out-Statement t) → IsTrue v ↔ Hands g (t ∷ [])
  value_decides true v t bare d e is = absurd (true≢false e)
  value_decides false v t bare d e is = (λ h. hands_itself t bare (is.0 h), λ all. is.1 (value_handed t d all))

  pub group_decides : (g : Bool) (t : Statement) → Does t → g ≡ true → IsTrue (not g) ↔ Hands g (t ∷ [])
  group_decides true t d e = no (none_grouped t d)
  group_decides false t d e = absurd (true≢false (sym e))

-- ---- what was asked
pub not_on : (b : Bool) → IsTrue b → b ≡ false → ⊥
not_on b h e = true≢false (sym h ∙ e)
