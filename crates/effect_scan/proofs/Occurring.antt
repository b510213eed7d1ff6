-- What the statements of bodies do, one statement after another.
use Rattle.std.proofs.Common.{◌≡◌, ◌↔◌, ◌⊎◌, inl, inr, ℕ, zero, suc, ◌+◌, ◌<◌, ◌≤◌, List, [], ◌∷◌, ◌++◌, length, get_or, take, slice_get, Some, None, Result, Ok, Err, IfOk, refl, sym, ap, ◌∙◌, subst}
use Rattle.std.specs.List.{Contains}
use Rattle.std.proofs.lemmas.List.{take_more, take_all}
use Rattle.std.proofs.lemmas.Option.{none-some, same_Some}
use Rattle.std.proofs.lemmas.List.Elements.{Contains-append_left, Contains-push, Contains-push_cases}
use Rattle.syntax_trees.specs.declared.syntax.Expr.{Expr}
use Rattle.meta_model.specs.declared.object.ValueType.{ValueType}
use Rattle.meta_model.specs.declared.object.MetaPath.{MetaPath}
use Rattle.meta_model.specs.declared.object.Statement.{Statement}
use Rattle.meta_model.specs.declared.object.Statement.TheOpen as layer
use Rattle.meta_model.specs.declared.object.Statement.TheViews.{out-Statement, roll-Statement, roll-out-Statement}
use Rattle.meta_model.specs.declared.object.Statement.TheVariants as whole
use Rattle.effect_scan.specs.declared.effect.Effect.{Effect}
use Rattle.effect_scan.specs.Effects.{effect_of, Occurs, here, after, chosen, otherwise, grouped, BodyHas, StatementHas, Gathers}

-- ---- lists
pub gathers_none : {X : Type 0} (P : X → Type 0) (xs : List X) → ((x : X) → ¬ P x) → Gathers P xs xs
gathers_none P xs none x = (λ h. inl h, λ h. elim h [ inl old ↦ old | inr new ↦ absurd (none x new) ])

pub gathers_then : {X : Type 0} (P Q R : X → Type 0) (first then last : List X) → Gathers P first then → Gathers Q then last → ((x : X) → R x ↔ (P x ⊎ Q x)) → Gathers R first last
gathers_then P Q R first then last p q r x = (
  λ h.
      elim ((q x).0 h) [
        | inl old ↦ elim ((p x).0 old) [ inl before ↦ inl before | inr new ↦ inr ((r x).1 (inl new)) ]
        | inr new ↦ inr ((r x).1 (inr new))
      ],
  λ h.
      elim h [
        | inl old ↦ (q x).1 (inl ((p x).1 (inl old)))
        | inr new ↦ elim ((r x).0 new) [ inl one ↦ (q x).1 (inl ((p x).1 (inr one))) | inr two ↦ (q x).1 (inr two) ]
      ],
)

pub gathers_one : {X : Type 0} (P : X → Type 0) (x : X) (xs ys : List X) → ys ≡ xs ++ x ∷ [] → P x → ((y : X) → P y → y ≡ x) → Gathers P xs ys
gathers_one P x xs ys e has only y = (
  λ h. elim (Contains-push_cases xs x y (subst (λ (l : List _). Contains l y) e h)) [ inl old ↦ inl old | inr same ↦ inr (subst P same has) ],
  λ h.
      subst (λ (l : List _). Contains l y) (sym e)
      (elim h [ inl old ↦ Contains-append_left xs (x ∷ []) y old | inr new ↦ subst (λ (z : _). Contains (xs ++ x ∷ []) z) (sym (only y new)) (Contains-push xs x) ]),
)

-- ---- statements
pub occurs_left : (s : Statement) (xs ys : List Statement) → Occurs s xs → Occurs s (xs ++ ys)
occurs_left s [] ys o = elim o [ ]
occurs_left s (x ∷ xs) ys here = here
occurs_left s (x ∷ xs) ys (after o) = after (occurs_left s xs ys o)
occurs_left s (x ∷ xs) ys (chosen is o) = chosen is o
occurs_left s (x ∷ xs) ys (otherwise is o) = otherwise is o
occurs_left s (x ∷ xs) ys (grouped is o) = grouped is o

pub occurs_right : (s : Statement) (xs ys : List Statement) → Occurs s ys → Occurs s (xs ++ ys)
occurs_right s [] ys o = o
occurs_right s (x ∷ xs) ys o = after (occurs_right s xs ys o)

pub occurs_either : (s : Statement) (xs ys : List Statement) → Occurs s (xs ++ ys) → Occurs s xs ⊎ Occurs s ys
occurs_either s [] ys o = inr o
occurs_either s (x ∷ xs) ys here = inl here
occurs_either s (x ∷ xs) ys (after o) = elim (occurs_either s xs ys o) [ inl l ↦ inl (after l) | inr r ↦ inr r ]
occurs_either s (x ∷ xs) ys (chosen is o) = inl (chosen is o)
occurs_either s (x ∷ xs) ys (otherwise is o) = inl (otherwise is o)
occurs_either s (x ∷ xs) ys (grouped is o) = inl (grouped is o)

-- what occurs in a statement of the body occurs in the body
pub occurs_at : (body : List Statement) (i : ℕ) (t s : Statement) → slice_get body i ≡ Some t → Occurs s (t ∷ []) → Occurs s body
occurs_at [] i t s e o = absurd (none-some t e)
occurs_at (x ∷ xs) zero t s e o = occurs_left s (x ∷ []) xs (subst (λ (y : Statement). Occurs s (y ∷ [])) (sym (same_Some _ _ e)) o)
occurs_at (x ∷ xs) (suc i) t s e o = after (occurs_at xs i t s e o)

-- no statement is in this one: it is no `if` and no group
abbrev pub IsPlain : Statement → Type 0
IsPlain t =
    ((x : Expr MetaPath) (block other : List Statement) → ¬ (t ≡ whole.If x block other))
    × ((sets : List Statement) → ¬ (t ≡ whole.Group sets))

-- .. by its parts
abbrev pub HasNoBlocks : layer.Statement-F Statement → Type 0
HasNoBlocks z =
    ((x : Expr MetaPath) (block other : List Statement) → ¬ (z ≡ layer.If x block other))
    × ((sets : List Statement) → ¬ (z ≡ layer.Group sets))

rolled : (t u : Statement) (z : layer.Statement-F Statement) → out-Statement t ≡ z → out-Statement u ≡ z → t ≡ u
rolled t u z a b = sym (roll-out-Statement t) ∙ ap roll-Statement (a ∙ sym b) ∙ roll-out-Statement u

pub no_blocks : (t : Statement) → IsPlain t → HasNoBlocks (out-Statement t)
no_blocks t bare = (
  λ x block other at. bare.0 x block other (rolled t (whole.If x block other) (layer.If x block other) at (whole.outs-If x block other)),
  λ sets at. bare.1 sets (rolled t (whole.Group sets) (layer.Group sets) at (whole.outs-Group sets)),
)

module _ (types : List ValueType) where
  -- the effects of one statement, by its parts
  plain : (z : layer.Statement-F Statement) (e : Effect) → effect_of types z ≡ Some e → StatementHas types z e
  plain (layer.Set path q x) e is = is
  plain (layer.Emit m xs) e is = is
  plain (layer.Call path m xs) e is = is
  plain (layer.If x block other) e is = absurd (none-some e is)
  plain (layer.Connect ends how) e is = is
  plain (layer.Disconnect ends) e is = is
  plain (layer.Delete path) e is = is
  plain (layer.Later path) e is = is
  plain (layer.Group sets) e is = absurd (none-some e is)

  pub plain_only : (z : layer.Statement-F Statement) (e : Effect) → HasNoBlocks z → StatementHas types z e → effect_of types z ≡ Some e
  plain_only (layer.Set path q x) e bare has = has
  plain_only (layer.Emit m xs) e bare has = has
  plain_only (layer.Call path m xs) e bare has = has
  plain_only (layer.If x block other) e bare has = absurd (bare.0 x block other refl)
  plain_only (layer.Connect ends how) e bare has = has
  plain_only (layer.Disconnect ends) e bare has = has
  plain_only (layer.Delete path) e bare has = has
  plain_only (layer.Later path) e bare has = has
  plain_only (layer.Group sets) e bare has = absurd (bare.1 sets refl)

  in_blocks : (z : layer.Statement-F Statement) (x : Expr MetaPath) (block other : List Statement) (e : Effect) → z ≡ layer.If x block other → BodyHas types block e ⊎ BodyHas types other e → StatementHas types z e
  in_blocks z x block other e is has = subst (λ (w : layer.Statement-F Statement). StatementHas types w e) (sym is) has

  in_group : (z : layer.Statement-F Statement) (sets : List Statement) (e : Effect) → z ≡ layer.Group sets → BodyHas types sets e → StatementHas types z e
  in_group z sets e is has = subst (λ (w : layer.Statement-F Statement). StatementHas types w e) (sym is) has

  -- a body of one statement
  pub alone : (t : Statement) (e : Effect) → BodyHas types (t ∷ []) e → StatementHas types (out-Statement t) e
  alone t e has = given has.statement has.occurs has.is
    where
      given : (s : Statement) → Occurs s (t ∷ []) → effect_of types (out-Statement s) ≡ Some e → StatementHas types (out-Statement t) e
      given s here is = plain (out-Statement t) e is
      given s (after o) is = elim o [ ]
      given s (chosen {e = x} {block = block} {other = other} at o) is = in_blocks (out-Statement t) x block other e at (inl (record { statement = s; occurs = o; is = is }))
      given s (otherwise {e = x} {block = block} {other = other} at o) is = in_blocks (out-Statement t) x block other e at (inr (record { statement = s; occurs = o; is = is }))
      given s (grouped {sets = sets} at o) is = in_group (out-Statement t) sets e at (record { statement = s; occurs = o; is = is })

  of_one : (t : Statement) (e : Effect) (z : layer.Statement-F Statement) → out-Statement t ≡ z → StatementHas types z e → BodyHas types (t ∷ []) e
  of_one t e (layer.Set path q x) at has = record { statement = t; occurs = here; is = ap (effect_of types) at ∙ has }
  of_one t e (layer.Emit m xs) at has = record { statement = t; occurs = here; is = ap (effect_of types) at ∙ has }
  of_one t e (layer.Call path m xs) at has = record { statement = t; occurs = here; is = ap (effect_of types) at ∙ has }
  of_one t e (layer.If x block other) at has =
      elim has [
        | inl one ↦ record { statement = one.statement; occurs = chosen at one.occurs; is = one.is }
        | inr two ↦ record { statement = two.statement; occurs = otherwise at two.occurs; is = two.is }
      ]
  of_one t e (layer.Connect ends how) at has = record { statement = t; occurs = here; is = ap (effect_of types) at ∙ has }
  of_one t e (layer.Disconnect ends) at has = record { statement = t; occurs = here; is = ap (effect_of types) at ∙ has }
  of_one t e (layer.Delete path) at has = record { statement = t; occurs = here; is = ap (effect_of types) at ∙ has }
  of_one t e (layer.Later path) at has = record { statement = t; occurs = here; is = ap (effect_of types) at ∙ has }
  of_one t e (layer.Group sets) at has = record { statement = has.statement; occurs = grouped at has.occurs; is = has.is }

  pub body_none : (e : Effect) → ¬ BodyHas types [] e
  body_none e has = elim has.occurs [ ]

  -- one statement more
  pub body_more : (xs : List Statement) (t : Statement) (e : Effect) → BodyHas types (xs ++ t ∷ []) e ↔ (BodyHas types xs e ⊎ StatementHas types (out-Statement t) e)
  body_more xs t e = (
    λ h.
        elim (occurs_either h.statement xs (t ∷ []) h.occurs) [
          | inl l ↦ inl (record { statement = h.statement; occurs = l; is = h.is })
          | inr r ↦ inr (alone t e (record { statement = h.statement; occurs = r; is = h.is }))
        ],
    λ h.
        elim h [
          | inl l ↦ record { statement = l.statement; occurs = occurs_left l.statement xs (t ∷ []) l.occurs; is = l.is }
          | inr r ↦ let one = of_one t e (out-Statement t) refl r in record { statement = one.statement; occurs = occurs_right one.statement xs (t ∷ []) one.occurs; is = one.is }
        ],
  )

  pub gather_more : (body : List Statement) (i : ℕ) (t : Statement) (first then last : List Effect) → i < length body → t ≡ get_or body i t
      → Gathers (BodyHas types (take i body)) first then → Gathers (StatementHas types (out-Statement t)) then last → Gathers (BodyHas types (take (i + 1) body)) first last
  gather_more body i t first then last inside is p q =
      let more : take (i + 1) body ≡ take i body ++ t ∷ [] = take_more body i t inside ∙ ap (λ (y : Statement). take i body ++ y ∷ []) (sym is) in
      gathers_then (BodyHas types (take i body)) (StatementHas types (out-Statement t)) (BodyHas types (take (i + 1) body)) first then last p q
      (λ e. subst (λ (l : List Statement). BodyHas types l e ↔ (BodyHas types (take i body) e ⊎ StatementHas types (out-Statement t) e)) (sym more) (body_more (take i body) t e))

  pub gather_all : (body : List Statement) (i : ℕ) (first last : List Effect) → length body ≤ i → Gathers (BodyHas types (take i body)) first last → Gathers (BodyHas types body) first last
  gather_all body i first last past p = subst (λ (l : List Statement). Gathers (BodyHas types l) first last) (take_all i body past) p

  -- both blocks of an `if`
  pub gather_blocks : (z : layer.Statement-F Statement) (x : Expr MetaPath) (block other : List Statement) (first then last : List Effect) → z ≡ layer.If x block other
      → Gathers (BodyHas types block) first then → Gathers (BodyHas types other) then last → Gathers (StatementHas types z) first last
  gather_blocks z x block other first then last is p q =
      gathers_then (BodyHas types block) (BodyHas types other) (StatementHas types z) first then last p q
      (λ e. subst (λ (w : layer.Statement-F Statement). StatementHas types w e ↔ (BodyHas types block e ⊎ BodyHas types other e)) (sym is) (λ h. h, λ h. h))

  -- a statement in which none is
  gather_effect : (z : layer.Statement-F Statement) (e : Effect) (xs ys : List Effect) → HasNoBlocks z → effect_of types z ≡ Some e → ys ≡ xs ++ e ∷ [] → Gathers (StatementHas types z) xs ys
  gather_effect z e xs ys bare is eq = gathers_one (StatementHas types z) e xs ys eq (plain z e is) (λ f has. same_Some _ _ (sym (plain_only z f bare has) ∙ is))

  gather_nothing : (z : layer.Statement-F Statement) (xs : List Effect) → HasNoBlocks z → effect_of types z ≡ None → Gathers (StatementHas types z) xs xs
  gather_nothing z xs bare is = gathers_none (StatementHas types z) xs (λ e has. absurd (none-some e (sym is ∙ plain_only z e bare has)))

  -- the same of a statement, by what it is
  pub gather_if : {T E : Type 0} (r : Result T E) (t : Statement) (x : Expr MetaPath) (block other left right : List Statement) (first then last : List Effect) → t ≡ whole.If x block other → left ≡ block → right ≡ other
      → Gathers (BodyHas types left) first then → IfOk r (λ _. Gathers (BodyHas types right) then last) → IfOk r (λ _. Gathers (StatementHas types (out-Statement t)) first last)
  gather_if (Ok v) t x block other left right first then last is l r p q =
      gather_blocks (out-Statement t) x block other first then last (ap out-Statement is ∙ whole.outs-If x block other)
      (subst (λ (b : List Statement). Gathers (BodyHas types b) first then) l p) (subst (λ (b : List Statement). Gathers (BodyHas types b) then last) r q)
  gather_if (Err v) t x block other left right first then last is l r p q = tt

  pub gather_group : {T E : Type 0} (r : Result T E) (t : Statement) (sets given : List Statement) (first last : List Effect) → t ≡ whole.Group sets → given ≡ sets → IfOk r (λ _. Gathers (BodyHas types given) first last)
      → IfOk r (λ _. Gathers (StatementHas types (out-Statement t)) first last)
  gather_group (Ok v) t sets given first last is same h =
      subst (λ (z : layer.Statement-F Statement). Gathers (StatementHas types z) first last) (sym (ap out-Statement is ∙ whole.outs-Group sets))
      (subst (λ (b : List Statement). Gathers (BodyHas types b) first last) same h)
  gather_group (Err v) t sets given first last is same h = tt

  pub gather_pushed : {T E : Type 0} (r : Result T E) (t : Statement) (e : Effect) (xs ys : List Effect) → IsPlain t → effect_of types (out-Statement t) ≡ Some e
      → IfOk r (λ _. ys ≡ xs ++ e ∷ []) → IfOk r (λ _. Gathers (StatementHas types (out-Statement t)) xs ys)
  gather_pushed (Ok v) t e xs ys bare is eq = gather_effect (out-Statement t) e xs ys (no_blocks t bare) is eq
  gather_pushed (Err v) t e xs ys bare is eq = tt

  pub gather_silent : (t : Statement) (xs : List Effect) → IsPlain t → effect_of types (out-Statement t) ≡ None → Gathers (StatementHas types (out-Statement t)) xs xs
  gather_silent t xs bare is = gather_nothing (out-Statement t) xs (no_blocks t bare) is
