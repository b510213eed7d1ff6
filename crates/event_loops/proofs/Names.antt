-- The names of the loops are the keys of the map, in their order.
use Rattle.std.proofs.Common.{◌≡◌, ◌≢◌, ℕ, zero, suc, ◌<◌, ◌≤◌, Bool, true, false, cond, List, [], ◌∷◌, ◌++◌, length, Option, None, Some, refl, arith, ap, sym, ◌∙◌, slice_get, get_or, option_map, nat_eq, is_some}
use Rattle.std.specs.declared.collections.VecDeque.{VecDeque}
use Rattle.std.specs.List.{position}
use Rattle.std.specs.Map.{keys_of, lookup}
use Rattle.std.specs.Cmp.Lexicographic.{pointwise, same_text, other_text}
use Rattle.std.proofs.lemmas.List.Quantifiers.{position-Some}
use Rattle.std.proofs.lemmas.Bool.{false≢true}
use Rattle.std.proofs.lemmas.Option.{same_Some, get_or_from_slice_get}
use Rattle.indexmap.specs.IndexMap.{IndexMap, insert_entry}
use Rattle.indexmap.proofs.CallerLemmas.{insert_entry-new}
use Rattle.event_loops.specs.declared.item.Posted.{Posted}
use Rattle.event_loops.specs.Queues.{Loop, name_at, IsTaken}
use Rattle.event_loops.specs.code.Rings.{loops_of, loops_in}
use Rattle.event_loops.proofs.Entries.{loops_of-append}

within : (names : List (List ℕ)) (home : ℕ) (d : List ℕ) → home < length names → slice_get names home ≡ Some (get_or names home d)
within [] home d h = absurd (omega (arith, h))
within (n ∷ names) zero d h = refl
within (n ∷ names) (suc home) d h = within names home d (omega (arith, h))

-- nothing is there where it is not the case that something is
pub none_where : {X : Type 0} (x : Option X) → false ≡ is_some x → x ≡ None
none_where None e = refl
none_where (Some x) e = absurd (false≢true e)

module _ {A : Type 0} where
  pub name_at-key : (es : List (List ℕ × VecDeque Posted A)) (home : ℕ) → name_at (loops_of es) home ≡ slice_get (keys_of es) home
  name_at-key [] home = refl
  name_at-key (e ∷ es) zero = refl
  name_at-key (e ∷ es) (suc home) = name_at-key es home

  pub name_at-entry : (es : List (List ℕ × VecDeque Posted A)) (home : ℕ) → name_at (loops_of es) home ≡ option_map (λ (e : List ℕ × VecDeque Posted A). e.0) (slice_get es home)
  name_at-entry [] home = refl
  name_at-entry (e ∷ es) zero = refl
  name_at-entry (e ∷ es) (suc home) = name_at-entry es home

  -- the loop at the place that was found has the name
  pub name_at-found : (es : List (List ℕ × VecDeque Posted A)) (name : List ℕ) (home : ℕ) → position (pointwise nat_eq name) (keys_of es) ≡ Some home → name_at (loops_of es) home ≡ Some name
  name_at-found es name home found =
      let told = position-Some (pointwise nat_eq name) (keys_of es) home name found in
      name_at-key es home ∙ within (keys_of es) home name told.0 ∙ ap Some (sym (same_text name _ (sym told.1)))

  -- .. and no loop before it has it
  pub name_at-first : (es : List (List ℕ × VecDeque Posted A)) (name : List ℕ) (home k : ℕ) → position (pointwise nat_eq name) (keys_of es) ≡ Some home → name_at (loops_of es) k ≡ Some name → home ≤ k
  name_at-first es name home k found named =
      let told = position-Some (pointwise nat_eq name) (keys_of es) home name found in
      let here : get_or (keys_of es) k name ≡ name = get_or_from_slice_get (keys_of es) k name name (sym (name_at-key es k) ∙ named) in
      let not_before : ¬ (k < home) = λ before. other_text name (get_or (keys_of es) k name) (sym (told.2 k before)) (sym here) in
      omega (arith, not_before)

  -- a name is found exactly where it is taken
  pub taken-lookup : (es : List (List ℕ × VecDeque Posted A)) (name : List ℕ) (home : ℕ) → name_at (loops_of es) home ≡ Some name → lookup (pointwise nat_eq name) es ≢ None
  taken-lookup [] name home taken none = absurd (cc taken)
  taken-lookup (e ∷ es) name zero taken none = by_test (pointwise nat_eq name e.0) refl none
    where
      by_test : (b : Bool) → pointwise nat_eq name e.0 ≡ b → cond b (Some e.1) (lookup (pointwise nat_eq name) es) ≡ None → ⊥
      by_test true told is = absurd (cc is)
      by_test false told is = other_text name e.0 (sym told) (sym (same_Some _ _ taken))
  taken-lookup (e ∷ es) name (suc home) taken none = by_test (pointwise nat_eq name e.0) (taken-lookup es name home taken) none
    where
      by_test : (b : Bool) → lookup (pointwise nat_eq name) es ≢ None → cond b (Some e.1) (lookup (pointwise nat_eq name) es) ≡ None → ⊥
      by_test true rest is = absurd (cc is)
      by_test false rest is = rest is

  pub free-lookup : (es : List (List ℕ × VecDeque Posted A)) (name : List ℕ) → ¬ IsTaken (loops_of es) name → lookup (pointwise nat_eq name) es ≡ None
  free-lookup [] name free = refl
  free-lookup (e ∷ es) name free = by_test (pointwise nat_eq name e.0) refl (free-lookup es name (λ taken. free (suc taken.0, taken.1)))
    where
      by_test : (b : Bool) → pointwise nat_eq name e.0 ≡ b → lookup (pointwise nat_eq name) es ≡ None → cond b (Some e.1) (lookup (pointwise nat_eq name) es) ≡ None
      by_test true told none = absurd (free (0, ap Some (sym (same_text name e.0 (sym told)))))
      by_test false told none = none

  -- a ring with no items, put under a name that no loop has, is a loop more
  pub shown-insert : {S : Type 0} (queues : IndexMap (List ℕ) (VecDeque Posted A) S) (name copy : List ℕ) (ring : VecDeque Posted A) → copy ≡ name → ring.items ≡ [] → ¬ IsTaken (loops_in queues) name → loops_of (insert_entry (pointwise nat_eq) queues.entries copy ring) ≡ loops_in queues ++ record { name = name; items = [] } ∷ []
  shown-insert queues name copy ring same none free =
      let before : List Loop = loops_in queues in
      let absent : lookup (pointwise nat_eq copy) queues.entries ≡ None = rw same (free-lookup queues.entries name free) in
      ap loops_of (insert_entry-new (pointwise nat_eq) queues copy ring absent)
      ∙ loops_of-append queues.entries ((copy, ring) ∷ [])
      ∙ ap (λ (n : List ℕ). before ++ record { name = n; items = ring.items } ∷ []) same
      ∙ ap (λ (items : List Posted). before ++ record { name = name; items = items } ∷ []) none
