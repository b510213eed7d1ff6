-- Lists of children.
use Rattle.std.proofs.Common.{◌≡◌, ◌≢◌, ℕ, zero, suc, ◌+◌, ◌<◌, ◌≤◌, eqb, Bool, true, false, ◌||◌, ◌&&◌, not, cond, List, [], ◌∷◌, ◌++◌, length, ltb, Option, None, Some, refl, sym, ap, ◌∙◌, arith}
use Rattle.std.specs.List.{remove, position_or_len, position}
use Rattle.std.proofs.lemmas.Bool.{eqb-true, eq-eqb, ne_eqb, ltb-true, ltb-false}
use Rattle.std.specs.Prelude.{OnSome, MatchOption, slice_get}
use Rattle.std.proofs.lemmas.Option.{slice_get_within, same_Some}
use Rattle.std.specs.Bool.{◌==◌}
use Rattle.meta_model.specs.Among.{is_among}
use Rattle.object_tree.specs.Children.{without, is_child, are_distinct}

-- ---- taking a child out, where it stands first

pub removes : (c : ℕ) (ks : List ℕ) → remove ks (position_or_len (λ k. eqb k c) ks) ≡ without c ks
removes c [] = refl
removes c (k ∷ ks) = by_test (eqb k c) (removes c ks)
  where
    by_test : (b : Bool) → remove ks (position_or_len (λ j. eqb j c) ks) ≡ without c ks → remove (k ∷ ks) (cond {A = ℕ} (not b) (1 + position_or_len (λ j. eqb j c) ks) 0) ≡ cond b ks (k ∷ without c ks)
    by_test true r = refl
    by_test false r =
        let e : 1 + position_or_len (λ j. eqb j c) ks ≡ suc (position_or_len (λ j. eqb j c) ks) = omega arith in
        rw e (ap (λ (js : List ℕ). k ∷ js) r)

pub not_there : (c : ℕ) (ks : List ℕ) → length ks ≤ position_or_len (λ k. eqb k c) ks → without c ks ≡ ks
not_there c [] l = refl
not_there c (k ∷ ks) l = by_test (eqb k c) l (not_there c ks)
  where
    by_test : (b : Bool) → length (k ∷ ks) ≤ cond {A = ℕ} (not b) (1 + position_or_len (λ j. eqb j c) ks) 0 → (length ks ≤ position_or_len (λ j. eqb j c) ks → without c ks ≡ ks) → cond b ks (k ∷ without c ks) ≡ k ∷ ks
    by_test true h r = absurd (omega (arith, h))
    by_test false h r = ap (λ (js : List ℕ). k ∷ js) (r (omega (arith, h)))

-- what `remove` leaves at the place that was found
pub place-removes : (c : ℕ) (ks : List ℕ) (place : ℕ) → position (λ k. k == c) ks ≡ Some place → remove ks place ≡ without c ks
place-removes c ks place found = by_test (ltb (position_or_len (λ k. eqb k c) ks) (length ks)) found
  where
    by_test : (b : Bool) → cond b (Some (position_or_len (λ k. eqb k c) ks)) None ≡ Some place → remove ks place ≡ without c ks
    by_test true e =
        let same : position_or_len (λ k. eqb k c) ks ≡ place = cc e in
        ap (λ (n : ℕ). remove ks n) (sym same) ∙ removes c ks
    by_test false e = absurd (cc e)

pub none-removes : (c : ℕ) (ks : List ℕ) → position (λ k. k == c) ks ≡ None → ks ≡ without c ks
none-removes c ks found = by_test (ltb (position_or_len (λ k. eqb k c) ks) (length ks)) refl found
  where
    by_test : (b : Bool) → ltb (position_or_len (λ k. eqb k c) ks) (length ks) ≡ b → cond b (Some (position_or_len (λ k. eqb k c) ks)) None ≡ None → ks ≡ without c ks
    by_test true t e = absurd (cc e)
    by_test false t e = sym (not_there c ks (ltb-false _ _ t))

-- ---- who is among them

-- who is at some place is among them
among-at : (c : ℕ) (ks : List ℕ) (i : ℕ) → slice_get ks i ≡ Some c → is_among c ks ≡ true
among-at c [] i e = absurd (cc e)
among-at c (k ∷ ks) zero e = rw (eq-eqb k c (same_Some _ _ e)) refl
among-at c (k ∷ ks) (suc i) e = by_test (eqb k c) (among-at c ks i e)
  where
    by_test : (b : Bool) → is_among c ks ≡ true → (b || is_among c ks) ≡ true
    by_test true r = refl
    by_test false r = r

-- where no child appears twice, to take out what is at its place is to take the child out
pub remove-at : (c : ℕ) (ks : List ℕ) (i : ℕ) → are_distinct ks ≡ true → slice_get ks i ≡ Some c → remove ks i ≡ without c ks
remove-at c [] i d e = absurd (cc e)
remove-at c (k ∷ ks) zero d e = rw (eq-eqb k c (same_Some _ _ e)) refl
remove-at c (k ∷ ks) (suc i) d e = by_test (eqb k c) refl (is_among k ks) refl d (among-at c ks i e) (remove-at c ks i)
  where
    by_test : (b : Bool) → eqb k c ≡ b → (a : Bool) → is_among k ks ≡ a → (not a && are_distinct ks) ≡ true → is_among c ks ≡ true → (are_distinct ks ≡ true → slice_get ks i ≡ Some c → remove ks i ≡ without c ks) → k ∷ remove ks i ≡ cond b ks (k ∷ without c ks)
    by_test b t true i' h m r = absurd (cc h)
    by_test true t false i' h m r = let same : is_among k ks ≡ true = rw (eqb-true k c t) m in absurd (cc (same, i'))
    by_test false t false i' h m r = ap (λ (js : List ℕ). k ∷ js) (r h e)

pub place-length : (ks : List ℕ) (i c : ℕ) → slice_get ks i ≡ Some c → i < length ks
place-length ks i c e = slice_get_within ks i c e

pub among-without_other : (c d : ℕ) (ks : List ℕ) → d ≢ c → is_among d (without c ks) ≡ is_among d ks
among-without_other c d [] o = refl
among-without_other c d (k ∷ ks) o = by_test (eqb k c) refl (among-without_other c d ks o)
  where
    by_test : (b : Bool) → eqb k c ≡ b → is_among d (without c ks) ≡ is_among d ks → is_among d (cond b ks (k ∷ without c ks)) ≡ (eqb k d || is_among d ks)
    by_test true e r =
        let other : eqb k d ≡ false = ne_eqb k d (λ s. o (sym s ∙ eqb-true k c e)) in
        rw other refl
    by_test false e r = ap (λ (b : Bool). eqb k d || b) r

pub among-without_none : (c d : ℕ) (ks : List ℕ) → is_among d ks ≡ false → is_among d (without c ks) ≡ false
among-without_none c d [] n = refl
among-without_none c d (k ∷ ks) n = by_test (eqb k c) (eqb k d) refl n (among-without_none c d ks)
  where
    by_test : (b e : Bool) → eqb k d ≡ e → (e || is_among d ks) ≡ false → (is_among d ks ≡ false → is_among d (without c ks) ≡ false) → is_among d (cond b ks (k ∷ without c ks)) ≡ false
    by_test b true i h r = absurd (cc h)
    by_test true false i h r = h
    by_test false false i h r = rw i (r h)

pub among-without_sub : (c d : ℕ) (ks : List ℕ) → is_among d (without c ks) ≡ true → is_among d ks ≡ true
among-without_sub c d ks e = by_test (is_among d ks) refl
  where
    by_test : (b : Bool) → is_among d ks ≡ b → is_among d ks ≡ true
    by_test true t = t
    by_test false t = let none : is_among d (without c ks) ≡ false = among-without_none c d ks t in absurd (cc (none, e))

pub among-without_same : (c : ℕ) (ks : List ℕ) → are_distinct ks ≡ true → is_among c (without c ks) ≡ false
among-without_same c [] d = refl
among-without_same c (k ∷ ks) d = by_test (eqb k c) refl (is_among k ks) refl d (among-without_same c ks)
  where
    by_test : (b : Bool) → eqb k c ≡ b → (a : Bool) → is_among k ks ≡ a → (not a && are_distinct ks) ≡ true → (are_distinct ks ≡ true → is_among c (without c ks) ≡ false) → is_among c (cond b ks (k ∷ without c ks)) ≡ false
    by_test b e true i h r = absurd (cc h)
    by_test true e false i h r = rw (← eqb-true k c e) i
    by_test false e false i h r = rw e (r h)

pub among-join_other : (c d : ℕ) (ks : List ℕ) → d ≢ c → is_among d (ks ++ c ∷ []) ≡ is_among d ks
among-join_other c d [] o = rw (ne_eqb c d (λ s. o (sym s))) refl
among-join_other c d (k ∷ ks) o = ap (λ (b : Bool). eqb k d || b) (among-join_other c d ks o)

pub among-join_same : (c : ℕ) (ks : List ℕ) → is_among c (ks ++ c ∷ []) ≡ true
among-join_same c [] = rw (eq-eqb c c refl) refl
among-join_same c (k ∷ ks) = by_test (eqb k c) (among-join_same c ks)
  where
    by_test : (b : Bool) → is_among c (ks ++ c ∷ []) ≡ true → (b || is_among c (ks ++ c ∷ [])) ≡ true
    by_test true r = refl
    by_test false r = r

pub length-without : (c : ℕ) (ks : List ℕ) → length ks ≤ suc (length (without c ks))
length-without c [] = omega arith
length-without c (k ∷ ks) = by_test (eqb k c) (length-without c ks)
  where
    by_test : (b : Bool) → length ks ≤ suc (length (without c ks)) → suc (length ks) ≤ suc (length (cond b ks (k ∷ without c ks)))
    by_test true r = omega arith
    by_test false r = omega (arith, r)

-- ---- no child stands there twice

pub distinct-without : (c : ℕ) (ks : List ℕ) → are_distinct ks ≡ true → are_distinct (without c ks) ≡ true
distinct-without c [] d = refl
distinct-without c (k ∷ ks) d = by_test (eqb k c) (is_among k ks) refl d (distinct-without c ks)
  where
    by_test : (b a : Bool) → is_among k ks ≡ a → (not a && are_distinct ks) ≡ true → (are_distinct ks ≡ true → are_distinct (without c ks) ≡ true) → are_distinct (cond b ks (k ∷ without c ks)) ≡ true
    by_test b true i h r = absurd (cc h)
    by_test true false i h r = h
    by_test false false i h r = rw (among-without_none c k ks i) (r h)

pub distinct-join : (c : ℕ) (ks : List ℕ) → is_among c ks ≡ false → are_distinct ks ≡ true → are_distinct (ks ++ c ∷ []) ≡ true
distinct-join c [] n d = refl
distinct-join c (k ∷ ks) n d = by_test (eqb k c) refl (is_among k ks) refl n d (distinct-join c ks)
  where
    by_test : (b : Bool) → eqb k c ≡ b → (a : Bool) → is_among k ks ≡ a → (b || is_among c ks) ≡ false → (not a && are_distinct ks) ≡ true → (is_among c ks ≡ false → are_distinct ks ≡ true → are_distinct (ks ++ c ∷ []) ≡ true) → (not (is_among k (ks ++ c ∷ [])) && are_distinct (ks ++ c ∷ [])) ≡ true
    by_test b e true i h g r = absurd (cc g)
    by_test true e false i h g r = absurd (cc h)
    by_test false e false i h g r =
        let apart : k ≢ c = λ s. let t : eqb k c ≡ true = eq-eqb k c s in absurd (cc (sym t ∙ e)) in
        rw (among-join_other c k ks apart, i) (r h g)

-- ---- places

pub place-within : (c : ℕ) (ks : List ℕ) (place : ℕ) → position (λ k. k == c) ks ≡ Some place → place < length ks
place-within c ks place found = by_test (ltb (position_or_len (λ k. eqb k c) ks) (length ks)) refl found
  where
    by_test : (b : Bool) → ltb (position_or_len (λ k. eqb k c) ks) (length ks) ≡ b → cond b (Some (position_or_len (λ k. eqb k c) ks)) None ≡ Some place → place < length ks
    by_test true t e =
        let same : position_or_len (λ k. eqb k c) ks ≡ place = cc e in
        let within = ltb-true _ _ t in
        omega (arith, same, within)
    by_test false t e = absurd (cc e)

pub is-child : (c : ℕ) (x : Option ℕ) → is_child c x ≡ true → x ≡ Some c
is-child c None e = absurd (cc e)
is-child c (Some k) e = ap Some (eqb-true k c e)

-- what is looked for from the front is found or isn't there
pub place-found : (c : ℕ) (ks : List ℕ) (r : Option ℕ) → r ≡ position (λ k. k == c) ks → MatchOption r (without c ks ≡ ks) (λ i. (remove ks i ≡ without c ks) × (i < length ks))
place-found c ks None e = sym (none-removes c ks (sym e))
place-found c ks (Some i) e = (place-removes c ks i (sym e), place-within c ks i (sym e))

-- ---- options

pub on_some : {X : Type 0} (r : Option X) (x : X) {P : Type 0} → r ≡ Some x → OnSome r P → P
on_some None x e h = absurd (cc e)
on_some (Some y) x e h = h
