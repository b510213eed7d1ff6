-- What is added to rows of edges, step by step.
use Rattle.std.proofs.Common.{◌≡◌, ◌≢◌, ◌↔◌, ◌⊎◌, inl, inr, ℕ, zero, suc, ◌+◌, ◌<◌, ◌≤◌, List, [], ◌∷◌, ◌++◌, length, get_or, set, take, replicate, slice_get, Some, None, refl, sym, ap, ◌∙◌, subst, arith, get_or-set_same, get_or-set_other}
use Rattle.std.specs.List.{Contains}
use Rattle.std.proofs.lemmas.Bool.{cases_eq, cases_lt}
use Rattle.std.proofs.lemmas.List.{take_all, length-set, get_or_past, get_or_default, get_or-replicate, length-replicate}
use Rattle.std.proofs.lemmas.Option.{slice_get_within, same_Some, none-some, get_or_from_slice_get}
pub use Rattle.class_sets.proofs.Firsts.{no_members, first_more}
use Rattle.effect_scan.specs.Rows.{row, Edge}
use Rattle.effect_scan.specs.Effects.{Gathers}
use Rattle.effect_scan.specs.code.Adding.{Adds, Joins, IsOrdered}
use Rattle.effect_scan.specs.code.Adding.{Among, AmongFirst}

-- ---- rows
pub row_past : (rows : List (List ℕ)) (a : ℕ) → length rows ≤ a → row rows a ≡ []
unfolding row
row_past rows a past = get_or_past rows a [] past

pub edge_inside : (rows : List (List ℕ)) (a b : ℕ) → Edge rows a b → a < length rows
edge_inside rows a b e =
    elim (cases_lt a (length rows)) [
      | inl l ↦ l
      | inr m ↦ absurd (no_members b (subst (λ (r : List ℕ). Contains r b) (row_past rows a m) e))
    ]

pub row_set_same : (rows : List (List ℕ)) (a : ℕ) (r : List ℕ) → a < length rows → row (set rows a r) a ≡ r
unfolding row
row_set_same rows a r inside = get_or-set_same rows a r [] inside

pub row_set_other : (rows : List (List ℕ)) (a : ℕ) (r : List ℕ) (x : ℕ) → x ≢ a → row (set rows a r) x ≡ row rows x
unfolding row
row_set_other rows a r x ne = get_or-set_other rows a x r [] ne

pub row_default : (rows : List (List ℕ)) (a : ℕ) (d : List ℕ) → a < length rows → get_or rows a d ≡ row rows a
unfolding row
row_default rows a d inside = get_or_default rows a d [] inside

-- numbers with P are added to the row of a
pub adds_to : (P : ℕ → Type 0) (rows : List (List ℕ)) (a : ℕ) (d r : List ℕ) → a < length rows → Gathers P (get_or rows a d) r → Adds (λ x y. (x ≡ a) × P y) rows (set rows a r)
adds_to P rows a d r inside g = record {
  count = length-set rows a r;
  edges = λ x y.
      elim (cases_eq x a) [
        | inl same ↦
            let now : row (set rows a r) x ≡ r = subst (λ (z : ℕ). row (set rows a r) z ≡ r) (sym same) (row_set_same rows a r inside) in
            let was : get_or rows a d ≡ row rows x = subst (λ (z : ℕ). get_or rows a d ≡ row rows z) (sym same) (row_default rows a d inside) in (
              λ h.
                  elim ((g y).0 (subst (λ (l : List ℕ). Contains l y) now h)) [
                    | inl old ↦ inl (subst (λ (l : List ℕ). Contains l y) was old)
                    | inr new ↦ inr (same, new)
                  ],
              λ h.
                  subst (λ (l : List ℕ). Contains l y) (sym now)
                  (elim h [ inl old ↦ (g y).1 (inl (subst (λ (l : List ℕ). Contains l y) (sym was) old)) | inr new ↦ (g y).1 (inr new.1) ]),
            )
        | inr other ↦
            let now : row (set rows a r) x ≡ row rows x = row_set_other rows a r x other in (
              λ h. inl (subst (λ (l : List ℕ). Contains l y) now h),
              λ h. elim h [ inl old ↦ subst (λ (l : List ℕ). Contains l y) (sym now) old | inr new ↦ absurd (other new.0) ],
            )
      ];
}

pub adds_none : (P : ℕ → ℕ → Type 0) (rows : List (List ℕ)) → ((a b : ℕ) → ¬ P a b) → Adds P rows rows
adds_none P rows none = record {
  count = refl;
  edges = λ a b. (λ h. inl h, λ h. elim h [ inl old ↦ old | inr new ↦ absurd (none a b new) ]);
}

pub adds_then : (P Q R : ℕ → ℕ → Type 0) (first then last : List (List ℕ)) → Adds P first then → Adds Q then last → ((a b : ℕ) → R a b ↔ (P a b ⊎ Q a b)) → Adds R first last
adds_then P Q R first then last p q r = record {
  count = q.count ∙ p.count;
  edges = λ a b. (
    λ h.
        elim ((q.edges a b).0 h) [
          | inl old ↦ elim ((p.edges a b).0 old) [ inl before ↦ inl before | inr new ↦ inr ((r a b).1 (inl new)) ]
          | inr new ↦ inr ((r a b).1 (inr new))
        ],
    λ h.
        elim h [
          | inl old ↦ (q.edges a b).1 (inl ((p.edges a b).1 (inl old)))
          | inr new ↦ elim ((r a b).0 new) [ inl one ↦ (q.edges a b).1 (inl ((p.edges a b).1 (inr one))) | inr two ↦ (q.edges a b).1 (inr two) ]
        ],
  );
}

pub adds_same : (P Q : ℕ → ℕ → Type 0) (before after : List (List ℕ)) → Adds P before after → ((a b : ℕ) → Q a b ↔ P a b) → Adds Q before after
adds_same P Q before after p q = record {
  count = p.count;
  edges = λ a b. (
    λ h. elim ((p.edges a b).0 h) [ inl old ↦ inl old | inr new ↦ inr ((q a b).1 new) ],
    λ h. (p.edges a b).1 (elim h [ inl old ↦ inl old | inr new ↦ inr ((q a b).0 new) ]),
  );
}

-- ---- one source after another
pub join_none : (sources targets : List ℕ) (rows : List (List ℕ)) → Adds (Joins (take 0 sources) targets) rows rows
join_none sources targets rows = adds_none (Joins (take 0 sources) targets) rows (λ a b h. no_members a h.0)

pub join_more : (sources targets : List ℕ) (i : ℕ) (first then last : List (List ℕ)) → i < length sources
    → Adds (Joins (take i sources) targets) first then → Adds (λ x y. (x ≡ get_or sources i 0) × Contains targets y) then last
    → Adds (Joins (take (i + 1) sources) targets) first last
join_more sources targets i first then last inside p q =
    adds_then (Joins (take i sources) targets) (λ x y. (x ≡ get_or sources i 0) × Contains targets y) (Joins (take (i + 1) sources) targets) first then last p q
    (λ a b. (
      λ h. elim ((first_more sources i 0 inside a).0 h.0) [ inl old ↦ inl (old, h.1) | inr new ↦ inr (new, h.1) ],
      λ h. elim h [ inl old ↦ ((first_more sources i 0 inside a).1 (inl old.0), old.1) | inr new ↦ ((first_more sources i 0 inside a).1 (inr new.0), new.1) ],
    ))

pub join_all : (sources targets : List ℕ) (i : ℕ) (before after : List (List ℕ)) → length sources ≤ i → Adds (Joins (take i sources) targets) before after → Adds (Joins sources targets) before after
join_all sources targets i before after past p =
    subst (λ (l : List ℕ). Adds (Joins l targets) before after) (take_all i sources past) p

-- ---- one element of a list after another
module _ {X : Type 0} (L : ℕ → X → ℕ → ℕ → Type 0) (xs : List X) where
  pub among_none : (a b : ℕ) → ¬ AmongFirst L xs 0 a b
  among_none a b h = absurd (omega (arith, h.before))

  pub among_more : (i : ℕ) (x : X) → slice_get xs i ≡ Some x → (a b : ℕ) → AmongFirst L xs (i + 1) a b ↔ (AmongFirst L xs i a b ⊎ L i x a b)
  among_more i x is a b = (
    λ h.
        elim (cases_eq h.among.place i) [
          | inl e ↦
              let same : h.among.item ≡ x = same_Some _ _ (sym h.among.is ∙ ap (λ (k : ℕ). slice_get xs k) e ∙ is) in
              inr (subst (λ (k : ℕ). L k x a b) e (subst (λ (y : X). L h.among.place y a b) same h.among.leads))
          | inr ne ↦ let before : h.among.place < i = omega (arith, h.before) in inl (record { among = h.among; before = before })
        ],
    λ h.
        elim h [
          | inl old ↦ let before : old.among.place < i + 1 = omega (arith, old.before) in record { among = old.among; before = before }
          | inr new ↦ record { among = record { place = i; item = x; is = is; leads = new }; before = omega arith }
        ],
  )

  pub among_all : (i : ℕ) → length xs ≤ i → (a b : ℕ) → Among L xs a b ↔ AmongFirst L xs i a b
  among_all i past a b = (
    λ h. let within = slice_get_within xs h.place h.item h.is in let before : h.place < i = omega arith in record { among = h; before = before },
    λ h. h.among,
  )

  pub adds_first : (rows : List (List ℕ)) → Adds (AmongFirst L xs 0) rows rows
  adds_first rows = adds_none (AmongFirst L xs 0) rows among_none

  pub adds_more : (i : ℕ) (x : X) (first then last : List (List ℕ)) → slice_get xs i ≡ Some x → Adds (AmongFirst L xs i) first then → Adds (L i x) then last → Adds (AmongFirst L xs (i + 1)) first last
  adds_more i x first then last is p q = adds_then (AmongFirst L xs i) (L i x) (AmongFirst L xs (i + 1)) first then last p q (among_more i x is)

  pub adds_all : (i : ℕ) (before after : List (List ℕ)) → length xs ≤ i → Adds (AmongFirst L xs i) before after → Adds (Among L xs) before after
  adds_all i before after past p = adds_same (AmongFirst L xs i) (Among L xs) before after p (among_all i past)

-- ---- empty rows, and rows in order
pub empty_row : (n a : ℕ) → row (replicate n []) a ≡ []
unfolding row
empty_row n a =
    elim (cases_lt a n) [
      | inl l ↦ get_or-replicate n a [] [] l
      | inr m ↦ get_or_past (replicate n []) a [] (rw length-replicate m)
    ]

pub empty_edge : (n a b : ℕ) → ¬ Edge (replicate n []) a b
empty_edge n a b e = no_members b (subst (λ (r : List ℕ). Contains r b) (empty_row n a) e)

-- ---- a row that is looked up
pub row_found : (rows : List (List ℕ)) (a : ℕ) (r : List ℕ) → slice_get rows a ≡ Some r → r ≡ row rows a
unfolding row
row_found rows a r e = sym (get_or_from_slice_get rows a r [] e)

pub row_absent : (rows : List (List ℕ)) (a : ℕ) → slice_get rows a ≡ None → [] ≡ row rows a
unfolding row
row_absent [] a e = refl
row_absent (r ∷ rs) zero e = absurd (none-some r (sym e))
row_absent (r ∷ rs) (suc a) e = row_absent rs a e

-- ---- what joins the numbers of two types of nodes
module _ (P Q : ℕ → Type 0) (R : ℕ → ℕ → Type 0) (both : (a b : ℕ) → R a b ↔ (P a × Q b)) where
  pub join_leads : (from to sources targets : List ℕ) (before after : List (List ℕ)) → ((n : ℕ) → Contains from n ↔ P n) → ((n : ℕ) → Contains to n ↔ Q n) → sources ≡ from → targets ≡ to
      → Adds (Joins sources targets) before after → Adds R before after
  join_leads from to sources targets before after p q e f adds =
      let joined : Adds (Joins from to) before after = subst (λ (t : List ℕ). Adds (Joins from t) before after) f (subst (λ (s : List ℕ). Adds (Joins s targets) before after) e adds) in
      adds_same (Joins from to) R before after joined
      (λ a b. (
        λ r. let k = (both a b).0 r in ((p a).1 k.0, (q b).1 k.1),
        λ j. (both a b).1 ((p a).0 j.0, (q b).0 j.1),
      ))

-- ---- what leads from one node alone
module _ (P Q : ℕ → Type 0) (R : ℕ → ℕ → Type 0) (both : (a b : ℕ) → R a b ↔ (P a × Q b)) where
  pub one_leads : (from : ℕ) → P from → ((n : ℕ) → P n → n ≡ from) → (rows : List (List ℕ)) (d r : List ℕ) → from < length rows → Gathers Q (get_or rows from d) r → Adds R rows (set rows from r)
  one_leads from is only rows d r inside g =
      adds_same (λ x y. (x ≡ from) × Q y) R rows (set rows from r) (adds_to Q rows from d r inside g)
      (λ a b. (
        λ h. let k = (both a b).0 h in (only a k.0, k.1),
        λ h. (both a b).1 (subst P (sym h.0) is, h.1),
      ))

  pub none_leads : ((n : ℕ) → ¬ P n) → (rows : List (List ℕ)) → Adds R rows rows
  none_leads none rows = adds_none R rows (λ a b h. none a ((both a b).0 h).0)

-- ---- rows that are taken out one by one
-- the rows behind the one that was taken stand as before
pub left_rows : (initial now after : List (List ℕ)) (k : ℕ) (r : List ℕ) → length now ≡ length initial → ((n : ℕ) → k ≤ n → row now n ≡ row initial n) → after ≡ set now k r
    → (length after ≡ length initial) × ((n : ℕ) → k + 1 ≤ n → row after n ≡ row initial n)
left_rows initial now after k r count same e = (
  ap length e ∙ length-set now k r ∙ count,
  λ n past. ap (λ (l : List (List ℕ)). row l n) e ∙ row_set_other now k r n (λ is. absurd (omega (arith, past, is))) ∙ same n (omega (arith, past)),
)

-- ---- a row that is in order
pub nothing_ordered : IsOrdered [] []
nothing_ordered = record { same = λ n. (λ h. h, λ h. h); increasing = λ k inside. absurd (omega (arith, inside)) }
