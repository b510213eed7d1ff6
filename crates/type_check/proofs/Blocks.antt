-- Typed bodies, one statement after another.
use Rattle.std.proofs.Common.{◌≡◌, ◌≢◌, inl, inr, ℕ, ◌+◌, ◌<◌, ◌≤◌, List, [], ◌∷◌, ◌++◌, length, get_or, take, refl, sym, ap, ◌∙◌, subst}
use Rattle.std.proofs.lemmas.List.{take_more, take_all}
use Rattle.std.proofs.lemmas.Option.{slice_get_read}
use Rattle.syntax_trees.specs.declared.syntax.Expr.{Expr}
use Rattle.meta_model.specs.declared.object.ValueType.{ValueType}
use Rattle.meta_model.specs.declared.object.MetaPath.{MetaPath}
use Rattle.meta_model.specs.declared.object.Statement.{Statement}
use Rattle.meta_model.specs.declared.object.Statement.TheOpen as layer
use Rattle.meta_model.specs.declared.object.Statement.TheViews.{out-Statement}
use Rattle.meta_model.specs.declared.object.Statement.TheVariants as whole
use Rattle.meta_model.specs.Loaded.{Loaded}
use Rattle.effect_scan.specs.Effects.{Occurs, here, after, chosen, otherwise, grouped}
use Rattle.effect_scan.proofs.Occurring.{occurs_at, occurs_either, IsPlain, no_blocks}
use Rattle.type_check.specs.Bodies.{IsTypedStatement, IsTypedBody}

module _ (p : Loaded) (me : ℕ) (types : List ValueType) where
  -- one statement more
  pub body_more : (body : List Statement) (i : ℕ) (t : Statement) → i < length body → t ≡ get_or body i t → IsTypedBody p me types (take i body) → IsTypedBody p me types (t ∷ [])
      → IsTypedBody p me types (take (i + 1) body)
  body_more body i t inside is before one s o =
      let more : take (i + 1) body ≡ take i body ++ t ∷ [] = take_more body i t inside ∙ ap (λ (y : Statement). take i body ++ y ∷ []) (sym is) in
      elim (occurs_either s (take i body) (t ∷ []) (subst (λ (l : List Statement). Occurs s l) more o)) [ inl l ↦ before s l | inr r ↦ one s r ]

  pub body_all : (body : List Statement) (i : ℕ) → length body ≤ i → IsTypedBody p me types (take i body) → IsTypedBody p me types body
  body_all body i past typed = subst (λ (l : List Statement). IsTypedBody p me types l) (take_all i body past) typed

  -- each statement of a typed body is typed
  pub body_at : (body : List Statement) (i : ℕ) (t : Statement) → i < length body → t ≡ get_or body i t → IsTypedBody p me types body → IsTypedBody p me types (t ∷ [])
  body_at body i t inside is typed s o = typed s (occurs_at body i t s (slice_get_read body (length body) i t refl inside is) o)

  -- ---- one statement
  abbrev Whole : Statement → Type 0
  Whole t = IsTypedStatement p me types (out-Statement t)

  pub whole_of : (t : Statement) → IsTypedBody p me types (t ∷ []) → IsTypedStatement p me types (out-Statement t)
  whole_of t typed = typed t here

  -- in which none is
  pub plain : (t : Statement) → IsPlain t → IsTypedStatement p me types (out-Statement t) → IsTypedBody p me types (t ∷ [])
  plain t bare typed s here = typed
  plain t bare typed s (after o) = elim o [ ]
  plain t bare typed s (chosen {e = x} {block = block} {other = other} at o) = absurd ((no_blocks t bare).0 x block other at)
  plain t bare typed s (otherwise {e = x} {block = block} {other = other} at o) = absurd ((no_blocks t bare).0 x block other at)
  plain t bare typed s (grouped {sets = sets} at o) = absurd ((no_blocks t bare).1 sets at)

  -- an `if`
  module _ (t : Statement) (x : Expr MetaPath) (block other : List Statement) (is : t ≡ whole.If x block other) where
    open_if : out-Statement t ≡ layer.If x block other
    open_if = ap out-Statement is ∙ whole.outs-If x block other

    pub first_block : IsTypedBody p me types (t ∷ []) → IsTypedBody p me types block
    first_block typed s o = typed s (chosen open_if o)

    pub second_block : IsTypedBody p me types (t ∷ []) → IsTypedBody p me types other
    second_block typed s o = typed s (otherwise open_if o)

    pub both_blocks : IsTypedStatement p me types (out-Statement t) → IsTypedBody p me types block → IsTypedBody p me types other → IsTypedBody p me types (t ∷ [])
    both_blocks typed first second s here = typed
    both_blocks typed first second s (after o) = elim o [ ]
    both_blocks typed first second s (chosen {e = y} {block = b} {other = c} at o) = first s (subst (λ (l : List Statement). Occurs s l) (sym (same_first y b c (sym open_if ∙ at))) o)
      where
        same_first : (y : Expr MetaPath) (b c : List Statement) → layer.If x block other ≡ layer.If y b c → block ≡ b
        same_first y b c e = cc
    both_blocks typed first second s (otherwise {e = y} {block = b} {other = c} at o) = second s (subst (λ (l : List Statement). Occurs s l) (sym (same_second y b c (sym open_if ∙ at))) o)
      where
        same_second : (y : Expr MetaPath) (b c : List Statement) → layer.If x block other ≡ layer.If y b c → other ≡ c
        same_second y b c e = cc
    both_blocks typed first second s (grouped {sets = sets} at o) = absurd (no_group sets (sym open_if ∙ at))
      where
        no_group : (sets : List Statement) → layer.If x block other ≢ layer.Group sets
        no_group sets e = absurd (cc)

  -- a group
  module _ (t : Statement) (sets : List Statement) (is : t ≡ whole.Group sets) where
    open_group : out-Statement t ≡ layer.Group sets
    open_group = ap out-Statement is ∙ whole.outs-Group sets

    pub its_sets : IsTypedBody p me types (t ∷ []) → IsTypedBody p me types sets
    its_sets typed s o = typed s (grouped open_group o)

    pub in_group : IsTypedStatement p me types (out-Statement t) → IsTypedBody p me types sets → IsTypedBody p me types (t ∷ [])
    in_group typed inside s here = typed
    in_group typed inside s (after o) = elim o [ ]
    in_group typed inside s (chosen {e = y} {block = b} {other = c} at o) = absurd (no_if y b c (sym open_group ∙ at))
      where
        no_if : (y : Expr MetaPath) (b c : List Statement) → layer.Group sets ≢ layer.If y b c
        no_if y b c e = absurd (cc)
    in_group typed inside s (otherwise {e = y} {block = b} {other = c} at o) = absurd (no_if y b c (sym open_group ∙ at))
      where
        no_if : (y : Expr MetaPath) (b c : List Statement) → layer.Group sets ≢ layer.If y b c
        no_if y b c e = absurd (cc)
    in_group typed inside s (grouped {sets = others} at o) = inside s (subst (λ (l : List Statement). Occurs s l) (sym (same others (sym open_group ∙ at))) o)
      where
        same : (others : List Statement) → layer.Group sets ≡ layer.Group others → sets ≡ others
        same others e = cc
