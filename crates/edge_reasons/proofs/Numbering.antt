-- What occurs in a body is among its statements in order, and nothing else is.
use Rattle.std.proofs.Common.{◌≡◌, inl, inr, ℕ, zero, suc, ◌+◌, List, [], ◌∷◌, ◌++◌, length, map, slice_get, Some, refl, sym, ap, ◌∙◌, subst}
use Rattle.std.proofs.lemmas.Option.{same_Some, none-some, slice_get_within}
use Rattle.meta_model.specs.declared.object.Statement.{Statement}
use Rattle.meta_model.specs.declared.object.Statement.TheOpen as layer
use Rattle.meta_model.specs.declared.object.Statement.TheViews.{out-Statement, roll-Statement, out-roll-Statement}
use Rattle.meta_model.specs.declared.object.Statement.TheFolds.{ind-Statement, map-Statement}
use Rattle.effect_scan.specs.Effects.{Occurs, here, after, chosen, otherwise, grouped}
use Rattle.effect_scan.proofs.Numbered.{get_left, get_right, get_either}
use Rattle.effect_scan.proofs.Occurring.{occurs_left}
use Rattle.edge_reasons.specs.Order.{with_parts, in_order, HasNumber, OccurringHaveNumbers}
use Rattle.edge_reasons.proofs.Order.{parts_of, order_opened, order_blocks, order_sets, opened_plain}

-- ---- a place in one of two lists
in_left : (s : Statement) (xs ys : List Statement) (n : ℕ) → slice_get xs n ≡ Some s → slice_get (xs ++ ys) n ≡ Some s
in_left s xs ys n is = get_left xs ys n (slice_get_within xs n s is) ∙ is

in_right : (s : Statement) (xs ys : List Statement) (n : ℕ) → slice_get ys n ≡ Some s → slice_get (xs ++ ys) (length xs + n) ≡ Some s
in_right s xs ys n is = get_right xs ys (length xs + n) n refl ∙ is

-- ---- what occurs has a number
module _ (t : Statement) (rest inside : List Statement) (opens : with_parts t ≡ t ∷ inside) where
  first_of : HasNumber t (t ∷ rest)
  first_of = (0, ap (λ (ts : List Statement). slice_get (ts ++ in_order rest) 0) opens)

  inner_of : (s : Statement) (n : ℕ) → slice_get inside n ≡ Some s → HasNumber s (t ∷ rest)
  inner_of s n is = (suc n, ap (λ (ts : List Statement). slice_get (ts ++ in_order rest) (suc n)) opens ∙ in_left s inside (in_order rest) n is)

pub numbered : (s : Statement) (body : List Statement) → Occurs s body → HasNumber s body
numbered s [] o = elim o [ ]
numbered s (t ∷ rest) here = first_of t rest (parts_of t) (order_opened t)
numbered s (t ∷ rest) (after o) =
    let n = numbered s rest o in
    (length (with_parts t) + n.0, in_right s (with_parts t) (in_order rest) n.0 n.1)
numbered s (t ∷ rest) (chosen {e = e} {block = block} {other = other} at o) =
    let n = numbered s block o in
    inner_of t rest (in_order block ++ in_order other) (order_blocks t e block other at) s n.0 (in_left s (in_order block) (in_order other) n.0 n.1)
numbered s (t ∷ rest) (otherwise {e = e} {block = block} {other = other} at o) =
    let n = numbered s other o in
    inner_of t rest (in_order block ++ in_order other) (order_blocks t e block other at) s (length (in_order block) + n.0) (in_right s (in_order block) (in_order other) n.0 n.1)
numbered s (t ∷ rest) (grouped {sets = sets} at o) =
    let n = numbered s sets o in inner_of t rest (in_order sets) (order_sets t sets at) s n.0 n.1

-- ---- what has a number occurs
abbrev OccurWithin : Statement → Type 0
OccurWithin t = (s : Statement) (n : ℕ) → slice_get (with_parts t) n ≡ Some s → Occurs s (t ∷ [])

abbrev Known : Type 0
Known = (t : Statement) × OccurWithin t

all_occur : (known : List Known) (s : Statement) (n : ℕ) → slice_get (in_order (map (λ k. k.0) known)) n ≡ Some s → Occurs s (map (λ k. k.0) known)
all_occur [] s n is = absurd (none-some s is)
all_occur (k ∷ known) s n is =
    elim (get_either (with_parts k.0) (in_order (map (λ k. k.0) known)) n s is) [
      | inl l ↦ occurs_left s (k.0 ∷ []) (map (λ k. k.0) known) (k.1 s n l.1)
      | inr r ↦ after (all_occur known s r.0 r.2)
    ]

only_itself : (t : Statement) → with_parts t ≡ t ∷ [] → OccurWithin t
only_itself t opens s n is = at_first n (sym (ap (λ (ts : List Statement). slice_get ts n) opens) ∙ is)
  where
    at_first : (n : ℕ) → slice_get (t ∷ []) n ≡ Some s → Occurs s (t ∷ [])
    at_first zero e = subst (λ (z : Statement). Occurs z (t ∷ [])) (same_Some _ _ e) here
    at_first (suc n) e = absurd (none-some s e)

within : (t : Statement) (inside : List Statement) → with_parts t ≡ t ∷ inside → ((s : Statement) (n : ℕ) → slice_get inside n ≡ Some s → Occurs s (t ∷ [])) → OccurWithin t
within t inside opens inner s n is = at_or_in n (sym (ap (λ (ts : List Statement). slice_get ts n) opens) ∙ is)
  where
    at_or_in : (n : ℕ) → slice_get (t ∷ inside) n ≡ Some s → Occurs s (t ∷ [])
    at_or_in zero e = subst (λ (z : Statement). Occurs z (t ∷ [])) (same_Some _ _ e) here
    at_or_in (suc n) e = inner s n e

layer_occurs : (y : layer.Statement-F Known) → OccurWithin (roll-Statement (map-Statement Known Statement (λ k. k.0) y))
layer_occurs (layer.If e block other) =
    let chosen_block : List Statement = map (λ k. k.0) block in
    let other_block : List Statement = map (λ k. k.0) other in
    let t : Statement = roll-Statement (layer.If e chosen_block other_block) in
    let is : out-Statement t ≡ layer.If e chosen_block other_block = out-roll-Statement (layer.If e chosen_block other_block) in
    within t (in_order chosen_block ++ in_order other_block) (order_blocks t e chosen_block other_block is)
    (λ s n at.
    elim (get_either (in_order chosen_block) (in_order other_block) n s at) [
      | inl l ↦ chosen is (all_occur block s n l.1)
      | inr r ↦ otherwise is (all_occur other s r.0 r.2)
    ])
layer_occurs (layer.Group sets) =
    let listed : List Statement = map (λ k. k.0) sets in
    let t : Statement = roll-Statement (layer.Group listed) in
    let is : out-Statement t ≡ layer.Group listed = out-roll-Statement (layer.Group listed) in
    within t (in_order listed) (order_sets t listed is) (λ s n at. grouped is (all_occur sets s n at))
layer_occurs (layer.Set path q e) = only_itself (roll-Statement (layer.Set path q e)) (opened_plain (layer.Set path q e) refl)
layer_occurs (layer.Emit m es) = only_itself (roll-Statement (layer.Emit m es)) (opened_plain (layer.Emit m es) refl)
layer_occurs (layer.Call path m es) = only_itself (roll-Statement (layer.Call path m es)) (opened_plain (layer.Call path m es) refl)
layer_occurs (layer.Connect ends how) = only_itself (roll-Statement (layer.Connect ends how)) (opened_plain (layer.Connect ends how) refl)
layer_occurs (layer.Disconnect ends) = only_itself (roll-Statement (layer.Disconnect ends)) (opened_plain (layer.Disconnect ends) refl)
layer_occurs (layer.Delete path) = only_itself (roll-Statement (layer.Delete path)) (opened_plain (layer.Delete path) refl)
layer_occurs (layer.Later path) = only_itself (roll-Statement (layer.Later path)) (opened_plain (layer.Later path) refl)

occur_within : (t : Statement) → OccurWithin t
occur_within = ind-Statement OccurWithin (λ x y is. subst (λ l. OccurWithin (roll-Statement l)) is (layer_occurs y))

occurring : (s : Statement) (body : List Statement) (n : ℕ) → slice_get (in_order body) n ≡ Some s → Occurs s body
occurring s [] n is = absurd (none-some s is)
occurring s (t ∷ rest) n is =
    elim (get_either (with_parts t) (in_order rest) n s is) [
      | inl l ↦ occurs_left s (t ∷ []) rest (occur_within t s n l.1)
      | inr r ↦ after (occurring s rest r.0 r.2)
    ]

pub have_numbers : (body : List Statement) → OccurringHaveNumbers body
have_numbers body s = (λ o. numbered s body o, λ h. occurring s body h.0 h.1)
