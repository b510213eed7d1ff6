-- A write of one ring changes the loop at its place.
use Rattle.std.proofs.Common.{◌≡◌, ℕ, zero, suc, List, [], ◌∷◌, ◌++◌, length, None, Some, refl, arith, ap, sym, ◌∙◌, slice_get, Result, Ok, Err, OnErr}
use Rattle.std.specs.declared.collections.VecDeque.{VecDeque}
use Rattle.std.specs.Map.{values_of}
use Rattle.std.proofs.lemmas.Option.{same_Some}
use Rattle.indexmap.specs.IndexMap.{set_value_at}
use Rattle.event_loops.specs.declared.item.Posted.{Posted}
use Rattle.event_loops.specs.Queues.{Loop, items_at, change, with_items}
use Rattle.event_loops.specs.code.Rings.{loop_of, loops_of}

module _ {A : Type 0} where
  pub change-ring : (f : List Posted → List Posted) (es : List (List ℕ × VecDeque Posted A)) (home : ℕ) (old new : VecDeque Posted A) → slice_get (values_of es) home ≡ Some old → new.items ≡ f old.items → loops_of (set_value_at es home new) ≡ change home (with_items f) (loops_of es)
  change-ring f [] home old new at is = refl
  change-ring f (e ∷ es) zero old new at is =
      let this : e.1 ≡ old = same_Some _ _ at in
      let now : new.items ≡ f (e.1).items = is ∙ ap (λ (v : VecDeque Posted A). f v.items) (sym this) in
      ap (λ items. record { name = e.0; items = items } ∷ loops_of es) now
  change-ring f (e ∷ es) (suc home) old new at is = ap (λ loops. loop_of e ∷ loops) (change-ring f es home old new at is)

  pub same-ring : (es : List (List ℕ × VecDeque Posted A)) (home : ℕ) (old new : VecDeque Posted A) → slice_get (values_of es) home ≡ Some old → new.items ≡ old.items → loops_of (set_value_at es home new) ≡ loops_of es
  same-ring [] home old new at is = refl
  same-ring (e ∷ es) zero old new at is =
      let now : new.items ≡ (e.1).items = is ∙ ap (λ (v : VecDeque Posted A). v.items) (sym (same_Some _ _ at)) in
      ap (λ items. record { name = e.0; items = items } ∷ loops_of es) now
  same-ring (e ∷ es) (suc home) old new at is = ap (λ loops. loop_of e ∷ loops) (same-ring es home old new at is)

  pub items_at-ring : (es : List (List ℕ × VecDeque Posted A)) (home : ℕ) (old : VecDeque Posted A) → slice_get (values_of es) home ≡ Some old → items_at (loops_of es) home ≡ old.items
  items_at-ring [] home old at = grind arith
  items_at-ring (e ∷ es) zero old at = ap (λ (v : VecDeque Posted A). v.items) (same_Some _ _ at)
  items_at-ring (e ∷ es) (suc home) old at = items_at-ring es home old at

  pub items_at-entry : (es : List (List ℕ × VecDeque Posted A)) (home : ℕ) (e : List ℕ × VecDeque Posted A) → slice_get es home ≡ Some e → items_at (loops_of es) home ≡ (e.1).items
  items_at-entry [] home e at = grind arith
  items_at-entry (f ∷ es) zero e at = ap (λ (g : List ℕ × VecDeque Posted A). (g.1).items) (same_Some _ _ at)
  items_at-entry (f ∷ es) (suc home) e at = items_at-entry es home e at

  pub items_at-none : (es : List (List ℕ × VecDeque Posted A)) (home : ℕ) → slice_get es home ≡ None → items_at (loops_of es) home ≡ []
  items_at-none [] home at = refl
  items_at-none (e ∷ es) zero at = grind arith
  items_at-none (e ∷ es) (suc home) at = items_at-none es home at

  -- where no loop is, nothing is and nothing changes
  pub items_at-nowhere : (es : List (List ℕ × VecDeque Posted A)) (home : ℕ) → slice_get (values_of es) home ≡ None → items_at (loops_of es) home ≡ []
  items_at-nowhere [] home at = refl
  items_at-nowhere (e ∷ es) zero at = grind arith
  items_at-nowhere (e ∷ es) (suc home) at = items_at-nowhere es home at

  pub change-nowhere : (f : Loop → Loop) (es : List (List ℕ × VecDeque Posted A)) (home : ℕ) → slice_get (values_of es) home ≡ None → change home f (loops_of es) ≡ loops_of es
  change-nowhere f [] home at = refl
  change-nowhere f (e ∷ es) zero at = grind arith
  change-nowhere f (e ∷ es) (suc home) at = ap (λ loops. loop_of e ∷ loops) (change-nowhere f es home at)

  pub loops_of-append : (es fs : List (List ℕ × VecDeque Posted A)) → loops_of (es ++ fs) ≡ loops_of es ++ loops_of fs
  loops_of-append [] fs = refl
  loops_of-append (e ∷ es) fs = ap (λ loops. loop_of e ∷ loops) (loops_of-append es fs)

-- ---- a loop whose items are put in its place
pub length-ring : {A : Type 0} (es : List (List ℕ × VecDeque Posted A)) (home : ℕ) (ring : VecDeque Posted A) → length (set_value_at es home ring) ≡ length es
length-ring [] home ring = refl
length-ring (e ∷ es) zero ring = refl
length-ring (e ∷ es) (suc home) ring = ap suc (length-ring es home ring)

pub put-twice : (first last : List Posted) (home : ℕ) (loops : List Loop) → change home (with_items (λ _. last)) (change home (with_items (λ _. first)) loops) ≡ change home (with_items (λ _. last)) loops
put-twice first last home [] = refl
put-twice first last zero (l ∷ loops) = refl
put-twice first last (suc home) (l ∷ loops) = ap (λ ls. l ∷ ls) (put-twice first last home loops)

pub put-same : (home : ℕ) (loops : List Loop) → change home (with_items (λ _. items_at loops home)) loops ≡ loops
put-same home [] = refl
put-same zero (l ∷ loops) = refl
put-same (suc home) (l ∷ loops) = ap (λ ls. l ∷ ls) (put-same home loops)

-- what holds at any rate holds after an error
pub OnErr-always : {T E P : Type 0} (r : Result T E) → P → OnErr r P
OnErr-always (Ok value) p = tt
OnErr-always (Err error) p = p
