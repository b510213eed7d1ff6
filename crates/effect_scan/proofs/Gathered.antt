-- Edges that are gathered by lists, and rows that are put in order with them.
use Rattle.std.proofs.Common.{◌≡◌, ◌≢◌, ◌↔◌, ◌⊎◌, inl, inr, ℕ, zero, suc, ◌+◌, ◌<◌, ◌≤◌, List, [], ◌∷◌, ◌++◌, length, get_or, set, take, drop, replicate, slice_get, Some, refl, sym, ap, ◌∙◌, subst, arith, append-nil, append_assoc}
use Rattle.std.specs.List.{Contains}
use Rattle.std.proofs.lemmas.Bool.{cases_eq, cases_lt}
use Rattle.std.proofs.lemmas.List.{take_all, take_more, drop_all, length-append, length-replicate, get_or_append_left, get_or_push}
use Rattle.std.proofs.lemmas.List.Elements.{Contains-push, Contains-push_cases, Contains-append_left, Contains-append_right, Contains-append_cases}
use Rattle.std.proofs.lemmas.Option.{get_or_from_slice_get, slice_get_within, same_Some, none-some}
use Rattle.effect_scan.specs.Rows.{row, Edge, AreAlike}
use Rattle.effect_scan.specs.code.Adding.{Adds, Joins, IsOrdered, HasBoth, AreOrdered}
use Rattle.effect_scan.specs.code.Families.{spread, gathered, AreNamed, HasList, IsTwin, AreTwins, IsSettled}
use Rattle.effect_scan.proofs.Adding.{no_members, row_past, row_default, row_set_same, row_set_other, left_rows, nothing_ordered, empty_edge}

-- ---- rows that are gathered
pub length_gathered : (lists own named : List (List ℕ)) → length (gathered lists own named) ≡ length own
length_gathered lists [] named = refl
length_gathered lists (r ∷ own) [] = ap suc (length_gathered lists own [])
length_gathered lists (r ∷ own) (ks ∷ named) = ap suc (length_gathered lists own named)

pub row_gathered : (lists own named : List (List ℕ)) (a : ℕ) → length named ≡ length own → row (gathered lists own named) a ≡ row own a ++ spread lists (row named a)
unfolding row
row_gathered lists [] [] a e = refl
row_gathered lists [] (ks ∷ named) a e = absurd (omega (arith, e))
row_gathered lists (r ∷ own) [] a e = absurd (omega (arith, e))
row_gathered lists (r ∷ own) (ks ∷ named) zero e = refl
row_gathered lists (r ∷ own) (ks ∷ named) (suc a) e = row_gathered lists own named a (omega (arith, e))

-- no lists are named yet
pub gathered_none : (lists own named : List (List ℕ)) → named ≡ replicate (length own) [] → gathered lists own named ≡ own
gathered_none lists own named e = ap (gathered lists own) e ∙ each own
  where
    each : (own : List (List ℕ)) → gathered lists own (replicate (length own) []) ≡ own
    each [] = refl
    each (r ∷ own) = ap (λ (l : List ℕ). l ∷ gathered lists own (replicate (length own) [])) (append-nil r) ∙ ap (λ (l : List (List ℕ)). r ∷ l) (each own)

pub named_none : (lists own named : List (List ℕ)) → named ≡ replicate (length own) [] → AreNamed lists own named
named_none lists own named e = record {
  count = ap length e ∙ length-replicate (length own) [];
  inside = λ a k h. absurd (empty_edge (length own) a k (subst (λ (l : List (List ℕ)). Edge l a k) e h));
}

pub named_nothing : (lists own named : List (List ℕ)) → own ≡ [] → named ≡ [] → AreNamed lists own named
named_nothing lists own named no_own no_named = record {
  count = ap length no_named ∙ sym (ap length no_own);
  inside = λ a k h. absurd (empty_edge 0 a k (subst (λ (l : List (List ℕ)). Edge l a k) no_named h));
}

-- ---- rows that are lent and written back
pub written_back : (items now after : List (List ℕ)) (n : ℕ) → now ≡ items → length now ≡ n → length after ≡ length now → take n (after ++ drop (length after) items) ≡ after
written_back items now after n same len count =
    let whole : length items ≤ length after = omega (arith, ap length same, count) in
    ap (λ (l : List (List ℕ)). take n (after ++ l)) (drop_all (length after) items whole) ∙ ap (take n) (append-nil after) ∙ take_all n after (omega (arith, len, count))

pub written_adds : (P : ℕ → ℕ → Type 0) (items now after : List (List ℕ)) (n : ℕ) → now ≡ items → length now ≡ n → Adds P now after → Adds P items (take n (after ++ drop (length after) items))
written_adds P items now after n same len adds =
    subst (λ (l : List (List ℕ)). Adds P items l) (sym (written_back items now after n same len adds.count)) (subst (λ (l : List (List ℕ)). Adds P l after) same adds)

-- ---- the numbers of lists
pub spread_has : (lists : List (List ℕ)) (ks : List ℕ) (b : ℕ) → Contains (spread lists ks) b → (k : ℕ) × Contains ks k × Edge lists k b
spread_has lists [] b h = absurd (no_members b h)
spread_has lists (k ∷ ks) b h =
    elim (Contains-append_cases (row lists k) (spread lists ks) b h) [
      | inl here ↦ (k, Contains-append_left (k ∷ []) ks k (Contains-push [] k), here)
      | inr later ↦ let x = spread_has lists ks b later in (x.0, Contains-append_right (k ∷ []) ks x.0 x.1, x.2)
    ]

pub has_spread : (lists : List (List ℕ)) (ks : List ℕ) (k b : ℕ) → Contains ks k → Edge lists k b → Contains (spread lists ks) b
has_spread lists [] k b h e = absurd (no_members k h)
has_spread lists (j ∷ ks) k b h e =
    elim (Contains-append_cases (j ∷ []) ks k h) [
      | inl here ↦
          elim (Contains-push_cases [] j k here) [
            | inl none ↦ absurd (no_members k none)
            | inr same ↦ Contains-append_left (row lists j) (spread lists ks) b (subst (λ (x : ℕ). Edge lists x b) (sym same) e)
          ]
      | inr later ↦ Contains-append_right (row lists j) (spread lists ks) b (has_spread lists ks k b later e)
    ]

pub edge_parts : (lists own named : List (List ℕ)) (a b : ℕ) → length named ≡ length own → Edge (gathered lists own named) a b → Edge own a b ⊎ ((k : ℕ) × Edge named a k × Edge lists k b)
edge_parts lists own named a b count h =
    elim (Contains-append_cases (row own a) (spread lists (row named a)) b (subst (λ (l : List ℕ). Contains l b) (row_gathered lists own named a count) h)) [
      | inl here ↦ inl here
      | inr there ↦ inr (spread_has lists (row named a) b there)
    ]

pub parts_edge : (lists own named : List (List ℕ)) (a b : ℕ) → length named ≡ length own → Edge own a b ⊎ ((k : ℕ) × Edge named a k × Edge lists k b) → Edge (gathered lists own named) a b
parts_edge lists own named a b count h =
    subst (λ (l : List ℕ). Contains l b) (sym (row_gathered lists own named a count)) (
    elim h [
      | inl here ↦ Contains-append_left (row own a) (spread lists (row named a)) b here
      | inr x ↦ Contains-append_right (row own a) (spread lists (row named a)) b (has_spread lists (row named a) x.0 b x.1 x.2)
    ]
    )

-- ---- a list more is named for some nodes
pub joined_named : (lists more own named after : List (List ℕ)) (sources targets : List ℕ) (n : ℕ) → AreNamed lists own named → HasList lists more targets n → Adds (Joins sources (n ∷ [])) named after → AreNamed more own after
joined_named lists more own named after sources targets n are has adds = record {
  count = adds.count ∙ are.count;
  inside = λ a k h.
      elim ((adds.edges a k).0 h) [
        | inl old ↦ let low = are.inside a k old in omega (arith, low, has.more)
        | inr new ↦
            elim (Contains-push_cases [] n k new.1) [
              | inl none ↦ absurd (no_members k none)
              | inr same ↦ let low = has.inside in subst (λ (x : ℕ). x < length more) same low
            ]
      ];
}

pub joined_adds : (lists more own named after : List (List ℕ)) (sources targets : List ℕ) (n : ℕ) → AreNamed lists own named → HasList lists more targets n → Adds (Joins sources (n ∷ [])) named after → Adds (Joins sources targets) (gathered lists own named) (gathered more own after)
joined_adds lists more own named after sources targets n are has adds = record {
  count = length_gathered more own after ∙ sym (length_gathered lists own named);
  edges = λ a b. (
    λ h.
        elim (edge_parts more own after a b counted h) [
          | inl here ↦ inl (parts_edge lists own named a b are.count (inl here))
          | inr x ↦
              elim ((adds.edges a x.0).0 x.1) [
                | inl old ↦ inl (parts_edge lists own named a b are.count (inr (x.0, old, subst (λ (l : List ℕ). Contains l b) (has.kept x.0 (are.inside a x.0 old)) x.2)))
                | inr new ↦ inr (new.0, subst (λ (l : List ℕ). Contains l b) has.is (subst (λ (k : ℕ). Edge more k b) (sym (only x.0 new.1)) x.2))
              ]
        ],
    λ h.
        elim h [
          | inl old ↦
              elim (edge_parts lists own named a b are.count old) [
                | inl here ↦ parts_edge more own after a b counted (inl here)
                | inr x ↦ parts_edge more own after a b counted (inr (x.0, (adds.edges a x.0).1 (inl x.1), subst (λ (l : List ℕ). Contains l b) (sym (has.kept x.0 (are.inside a x.0 x.1))) x.2))
              ]
          | inr new ↦
              parts_edge more own after a b counted
              (inr (n, (adds.edges a n).1 (inr (new.0, Contains-push [] n)), subst (λ (l : List ℕ). Contains l b) (sym has.is) new.1))
        ],
  );
}
  where
    counted : length after ≡ length own
    counted = adds.count ∙ are.count

    only : (k : ℕ) → Contains (n ∷ []) k → n ≡ k
    only k h = elim (Contains-push_cases [] n k h) [ inl none ↦ absurd (no_members k none) | inr same ↦ same ]

-- ---- a list by its number
pub list_known : (lists read : List (List ℕ)) (list : List ℕ) (n : ℕ) → read ≡ lists → slice_get read n ≡ Some list → HasList lists lists list n
unfolding row
list_known lists read list n same there =
    let here : slice_get lists n ≡ Some list = subst (λ (l : List (List ℕ)). slice_get l n ≡ Some list) same there in
    record {
      inside = slice_get_within lists n list here;
      is = get_or_from_slice_get lists n list [] here;
      more = omega arith;
      kept = λ k low. refl;
    }

pub list_pushed : (lists more : List (List ℕ)) (list copy : List ℕ) (n : ℕ) → n ≡ length lists → copy ≡ list → more ≡ lists ++ copy ∷ [] → HasList lists more list n
unfolding row
list_pushed lists more list copy n count same is =
    let long : length more ≡ length lists + 1 = ap (λ (l : List (List ℕ)). length l) is ∙ length-append lists (copy ∷ []) in
    record {
      inside = omega arith;
      is = ap (λ (l : List (List ℕ)). get_or l n []) is ∙ ap (λ (k : ℕ). get_or (lists ++ copy ∷ []) k []) count ∙ get_or_push lists copy [] (length lists) refl ∙ same;
      more = omega arith;
      kept = λ k low. ap (λ (l : List (List ℕ)). get_or l k []) is ∙ get_or_append_left lists (copy ∷ []) [] k low;
    }

-- ---- twins
pub own_twin : (own named : List (List ℕ)) (a : ℕ) → IsTwin own named a a
own_twin own named a = record { before = omega arith; same_own = refl; same_lists = refl }

pub twins_none : (own named : List (List ℕ)) (twins : List ℕ) → twins ≡ [] → (length twins ≡ 0) × ((a x : ℕ) → slice_get twins a ≡ Some x → IsTwin own named a x)
twins_none own named twins none = (ap length none, λ a x is. let low = slice_get_within twins a x is in absurd (omega (arith, low, ap length none)))

-- a number in a list that one was put behind
pushed_at : (xs : List ℕ) (y a x : ℕ) → slice_get (xs ++ y ∷ []) a ≡ Some x → (slice_get xs a ≡ Some x) ⊎ ((a ≡ length xs) × (y ≡ x))
pushed_at [] y zero x e = inr (refl, same_Some y x e)
pushed_at [] y (suc a) x e = absurd (none-some x e)
pushed_at (z ∷ xs) y zero x e = inl e
pushed_at (z ∷ xs) y (suc a) x e = elim (pushed_at xs y a x e) [ inl h ↦ inl h | inr h ↦ inr (ap suc h.0, h.1) ]

pub twins_more : (own named : List (List ℕ)) (twins after : List ℕ) (i t : ℕ) → (length twins ≡ i) × ((a x : ℕ) → slice_get twins a ≡ Some x → IsTwin own named a x) → IsTwin own named i t → after ≡ twins ++ t ∷ []
    → (length after ≡ i + 1) × ((a x : ℕ) → slice_get after a ≡ Some x → IsTwin own named a x)
twins_more own named twins after i t before is e = (
  (let long : length after ≡ length twins + 1 = ap length e ∙ length-append twins (t ∷ []) in omega (arith, long, before.0)),
  λ a x at.
      elim (pushed_at twins t a x (subst (λ (l : List ℕ). slice_get l a ≡ Some x) e at)) [
        | inl old ↦ before.1 a x old
        | inr new ↦ subst (λ (y : ℕ). IsTwin own named a y) new.1 (subst (λ (m : ℕ). IsTwin own named m t) (sym (new.0 ∙ before.0)) is)
      ],
)

-- ---- the numbers of one list after another
pub spread_more : (lists : List (List ℕ)) (ks : List ℕ) (i : ℕ) → i < length ks → spread lists (take (i + 1) ks) ≡ spread lists (take i ks) ++ row lists (get_or ks i 0)
spread_more lists ks i inside = ap (spread lists) (take_more ks i 0 inside) ∙ split (take i ks) (get_or ks i 0)
  where
    split : (xs : List ℕ) (k : ℕ) → spread lists (xs ++ k ∷ []) ≡ spread lists xs ++ row lists k
    split [] k = append-nil (row lists k)
    split (x ∷ xs) k = ap (λ (l : List ℕ). row lists x ++ l) (split xs k) ∙ sym (append_assoc (row lists x) (spread lists xs) (row lists k))

-- the same numbers, in any order and any number of times
abbrev pub HasSame : List ℕ → List ℕ → Type 0
HasSame xs ys = (n : ℕ) → Contains ys n ↔ Contains xs n

pub merge_none : (lists : List (List ℕ)) (r ks : List ℕ) → HasSame (r ++ spread lists (take 0 ks)) r
merge_none lists r ks n = subst (λ (l : List ℕ). Contains r n ↔ Contains l n) (sym (append-nil r)) (λ h. h, λ h. h)

pub merge_more : (lists : List (List ℕ)) (r now after list ks : List ℕ) (i : ℕ) → i < length ks → HasSame (r ++ spread lists (take i ks)) now → list ≡ row lists (get_or ks i 0) → HasBoth now list after → HasSame (r ++ spread lists (take (i + 1) ks)) after
merge_more lists r now after list ks i inside same found both n = subst (λ (l : List ℕ). Contains after n ↔ Contains l n) (sym whole) (
  λ h.
      elim ((both n).0 h) [
        | inl old ↦ Contains-append_left (r ++ spread lists (take i ks)) list n ((same n).0 old)
        | inr new ↦ Contains-append_right (r ++ spread lists (take i ks)) list n new
      ],
  λ h.
      (both n).1
      (elim (Contains-append_cases (r ++ spread lists (take i ks)) list n h) [
        | inl old ↦ inl ((same n).1 old)
        | inr new ↦ inr new
      ]),
)
  where
    whole : r ++ spread lists (take (i + 1) ks) ≡ (r ++ spread lists (take i ks)) ++ list
    whole = ap (λ (l : List ℕ). r ++ l) (spread_more lists ks i inside) ∙ sym (append_assoc r (spread lists (take i ks)) (row lists (get_or ks i 0))) ∙ ap (λ (l : List ℕ). (r ++ spread lists (take i ks)) ++ l) (sym found)

pub merge_all : (lists : List (List ℕ)) (r now after ks : List ℕ) (i : ℕ) → length ks ≤ i → HasSame (r ++ spread lists (take i ks)) now → IsOrdered now after → IsOrdered (r ++ spread lists ks) after
merge_all lists r now after ks i past same ordered = record {
  same = λ n. subst (λ (l : List ℕ). Contains after n ↔ Contains l n) (ap (λ (l : List ℕ). r ++ spread lists l) (take_all i ks past))
      (λ h. (same n).0 ((ordered.same n).0 h), λ h. (ordered.same n).1 ((same n).1 h));
  increasing = ordered.increasing;
}

-- ---- one row
pub settled_twin : (lists named rows : List (List ℕ)) (a twin : ℕ) (d r : List ℕ) → twin < a → a < length rows → r ≡ get_or rows twin d → IsSettled lists named a twin rows (set rows a r)
settled_twin lists named rows a twin d r before inside same = record {
  new = r;
  set = refl;
  is = inl (before, same ∙ row_default rows twin d (omega (arith, before, inside)));
}

pub settled_merged : (lists named rows : List (List ℕ)) (a twin : ℕ) (d ks r : List ℕ) → a < length rows → a ≤ twin → ks ≡ row named a → IsOrdered (get_or rows a d ++ spread lists ks) r → IsSettled lists named a twin rows (set rows a r)
settled_merged lists named rows a twin d ks r inside past found ordered = record {
  new = r;
  set = refl;
  is = inr (past, subst (λ (l : List ℕ). IsOrdered (row rows a ++ spread lists l) r) found (subst (λ (l : List ℕ). IsOrdered (l ++ spread lists ks) r) (row_default rows a d inside) ordered));
}

-- ---- rows that are put in order one by one
-- the first rows are those that are wanted, in order, each the same as its twin's; the others stand as before
pub record AreSettled (wanted initial : List (List ℕ)) (twins : List ℕ) (now : List (List ℕ)) (k : ℕ) : Type 0 where
  pub count : length now ≡ length initial
  pub done : (n : ℕ) → n < k → IsOrdered (row wanted n) (row now n)
  pub alike : (n t : ℕ) → n < k → slice_get twins n ≡ Some t → row now t ≡ row now n
  pub rest : (n : ℕ) → k ≤ n → row now n ≡ row initial n

pub settled_none : (wanted initial : List (List ℕ)) (twins : List ℕ) → AreSettled wanted initial twins initial 0
settled_none wanted initial twins = record {
  count = refl;
  done = λ n low. absurd (omega (arith, low));
  alike = λ n t low. absurd (omega (arith, low));
  rest = λ n low. refl;
}

module _ (lists initial named : List (List ℕ)) (twins : List ℕ) (count : length named ≡ length initial) (are_twins : AreTwins initial named twins) where
  wanted : (n : ℕ) → row (gathered lists initial named) n ≡ row initial n ++ spread lists (row named n)
  wanted n = row_gathered lists initial named n count

  -- what a twin wants
  same_wanted : (n t : ℕ) → IsTwin initial named n t → row (gathered lists initial named) t ≡ row (gathered lists initial named) n
  same_wanted n t is =
      wanted t ∙ ap (λ (l : List ℕ). l ++ spread lists (row named t)) is.same_own ∙ ap (λ (l : List ℕ). row initial n ++ spread lists l) is.same_lists ∙ sym (wanted n)

  pub settled_step : (now after : List (List ℕ)) (k twin : ℕ) → k < length now → slice_get twins k ≡ Some twin → IsSettled lists named k twin now after
      → AreSettled (gathered lists initial named) initial twins now k → AreSettled (gathered lists initial named) initial twins after (k + 1)
  settled_step now after k twin inside at settled are = record {
    count = left.0;
    done = λ n low.
        elim (cases_eq n k) [
          | inl is ↦ subst (λ (m : ℕ). IsOrdered (row (gathered lists initial named) m) (row after m)) (sym is) (subst (λ (l : List ℕ). IsOrdered (row (gathered lists initial named) k) l) (sym last) here)
          | inr ne ↦ subst (λ (l : List ℕ). IsOrdered (row (gathered lists initial named) n) l) (sym (stays n ne)) (are.done n (omega (arith, ne, low)))
        ];
    alike = λ n t low is.
        elim (cases_eq n k) [
          | inl e ↦
              let same : t ≡ twin = same_Some t twin (sym is ∙ ap (λ (m : ℕ). slice_get twins m) e ∙ at) in
              ap (row after) same ∙ twin_same ∙ ap (row after) (sym e)
          | inr ne ↦
              let below : n < k = omega (arith, ne, low) in
              let upto = (are_twins.each n t is).before in
              let other : t ≢ k = λ e. absurd (omega (arith, upto, below, e)) in
              stays t other ∙ are.alike n t below is ∙ sym (stays n ne)
        ];
    rest = left.1;
  }
    where
      is_twin : IsTwin initial named k twin
      is_twin = are_twins.each k twin at

      left : (length after ≡ length initial) × ((n : ℕ) → k + 1 ≤ n → row after n ≡ row initial n)
      left = left_rows initial now after k settled.new are.count are.rest settled.set

      last : row after k ≡ settled.new
      last = ap (λ (l : List (List ℕ)). row l k) settled.set ∙ row_set_same now k settled.new inside

      stays : (n : ℕ) → n ≢ k → row after n ≡ row now n
      stays n ne = ap (λ (l : List (List ℕ)). row l n) settled.set ∙ row_set_other now k settled.new n ne

      here : IsOrdered (row (gathered lists initial named) k) settled.new
      here = elim settled.is [
        | inl x ↦
            subst (λ (l : List ℕ). IsOrdered (row (gathered lists initial named) k) l) (sym x.1)
            (subst (λ (l : List ℕ). IsOrdered l (row now twin)) (same_wanted k twin is_twin) (are.done twin x.0))
        | inr x ↦
            subst (λ (l : List ℕ). IsOrdered l settled.new) (ap (λ (l : List ℕ). l ++ spread lists (row named k)) (are.rest k (omega arith)) ∙ sym (wanted k)) x.1
      ]

      twin_same : row after twin ≡ row after k
      twin_same = elim settled.is [
        | inl x ↦ stays twin (λ e. absurd (omega (arith, x.0, e))) ∙ sym x.1 ∙ sym last
        | inr x ↦ (let e : twin ≡ k = omega (arith, x.0, is_twin.before) in ap (row after) e)
      ]

  pub settled_all : (now : List (List ℕ)) (k : ℕ) → length now ≤ k → AreSettled (gathered lists initial named) initial twins now k → AreOrdered (gathered lists initial named) now
  settled_all now k past are = record {
    count = are.count ∙ sym (length_gathered lists initial named);
    each = λ a.
        elim (cases_lt a k) [
          | inl l ↦ are.done a l
          | inr m ↦
              let long : length (gathered lists initial named) ≤ a = omega (arith, length_gathered lists initial named, are.count, past, m) in
              let none : row (gathered lists initial named) a ≡ [] = row_past (gathered lists initial named) a long in
              let none_now : row now a ≡ [] = row_past now a (omega (arith, past, m)) in
              subst (λ (l : List ℕ). IsOrdered l (row now a)) (sym none) (subst (λ (l : List ℕ). IsOrdered [] l) (sym none_now) nothing_ordered)
        ];
  }

  pub alike_all : (now : List (List ℕ)) (k : ℕ) → length now ≤ k → AreSettled (gathered lists initial named) initial twins now k → AreAlike now twins
  alike_all now k past are = record {
    count = are_twins.count ∙ sym are.count;
    each = λ a b is.
        let low = slice_get_within twins a b is in
        are.alike a b (omega (arith, low, are_twins.count, are.count, past)) is;
  }
