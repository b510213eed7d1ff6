-- Relations between classes, and what is related by way of others.
use Rattle.std.{proofs.Common.{◌≡◌, ◌≢◌, ◌↔◌, ◌⊎◌, inl, inr, ℕ, zero, suc, ◌+◌, ◌-◌, ◌<◌, ◌≤◌, Bool, true, false, List, [], ◌∷◌, ◌++◌, length, get_or, set, take, slice_get, Option, Some, None, refl, sym, ap, ◌∙◌, subst, arith, get_or-set_same, get_or-set_other}, specs.List.{Contains, AllZip}, proofs.lemmas.Bool.{cases_eq, cases_lt}, proofs.lemmas.List.{take_all, length-set, length-append, get_or_past, get_or_default, get_or_append_left, get_or-append_right}, proofs.Math.Seq.{get_or-append_seam}, proofs.lemmas.Option.{slice_get_within, slice_get_past, none-some}}
use Rattle.class_sets.{specs.Marks.{IsMarked, Marks}, proofs.Firsts.{first_more}, proofs.Marking.{not_marked, marked_inside}}
use Rattle.meta_model.{specs.declared.object.MetaObject.{MetaObject}, specs.declared.object.MetaOwns.{MetaOwns}, specs.Loaded.{Loaded}, specs.Members.{IsClass, Below, Owns, same, under}, proofs.InLists.{in_list, place_in, owned_by, owns_of}, proofs.OneAnswer.{below_absent}}
use Rattle.effect_scan.{specs.Rows.{row}, specs.code.Adding.{Joins, AmongFirst}, specs.code.NodePlaces.{IsLineage, Lists}, specs.Destroying.{Closure, itself, child, AreClosures}, specs.code.Relations.{marks_of, Holds, IsSquare, IsEmpty, Extends, OwnsRows, IsOwned, IsOwn, Passes, Chains, one, more, IsClosed, Closing, AreListed}, proofs.Adding.{among_more, among_all, edge_inside}}

-- ---- all rows
pub marks_inside : (relation : List (List Bool)) (i j : ℕ) → Holds relation i j → i < length relation
unfolding marks_of
marks_inside relation i j h =
    elim (cases_lt i (length relation)) [
      | inl l ↦ l
      | inr m ↦
          let past : get_or relation i [] ≡ [] = get_or_past relation i [] m in
          absurd (not_marked j (subst (λ (marks : List Bool). IsMarked marks j) past h))
    ]

pub holds_low : (n : ℕ) (relation : List (List Bool)) (i j : ℕ) → IsSquare n relation → Holds relation i j → j < n
holds_low n relation i j square h =
    let low = marks_inside relation i j h in
    let inside = marked_inside (marks_of relation i) j h in
    let width = square.width i (omega (arith, square.count)) in
    omega arith

pub marks_set_same : (relation : List (List Bool)) (i : ℕ) (marks : List Bool) → i < length relation → marks_of (set relation i marks) i ≡ marks
unfolding marks_of
marks_set_same relation i marks inside = get_or-set_same relation i marks [] inside

pub marks_set_other : (relation : List (List Bool)) (i : ℕ) (marks : List Bool) (k : ℕ) → k ≢ i → marks_of (set relation i marks) k ≡ marks_of relation k
unfolding marks_of
marks_set_other relation i marks k ne = get_or-set_other relation i k marks [] ne

-- one row is marked further
pub extends_row : (P : ℕ → Type 0) (relation : List (List Bool)) (i : ℕ) (marks : List Bool) → IsSquare (length relation) relation → i < length relation → Marks P (marks_of relation i) marks
    → Extends (λ k j. (k ≡ i) × P j) relation (set relation i marks)
extends_row P relation i marks square inside m = record {
  square = record {
    count = length-set relation i marks;
    width = λ k low.
        elim (cases_eq k i) [
          | inl e ↦
              let here : marks_of (set relation i marks) k ≡ marks = subst (λ (x : ℕ). marks_of (set relation i marks) x ≡ marks) (sym e) (marks_set_same relation i marks inside) in
              ap length here ∙ m.count ∙ square.width i inside
          | inr ne ↦ ap length (marks_set_other relation i marks k ne) ∙ square.width k low
        ];
  };
  holds = λ k j.
      elim (cases_eq k i) [
        | inl e ↦
            let now : marks_of (set relation i marks) k ≡ marks = subst (λ (x : ℕ). marks_of (set relation i marks) x ≡ marks) (sym e) (marks_set_same relation i marks inside) in (
              λ h.
                  elim ((m.marks j).0 (subst (λ (x : List Bool). IsMarked x j) now h)) [
                    | inl old ↦ inl (subst (λ (x : ℕ). Holds relation x j) (sym e) old)
                    | inr new ↦ inr (e, new)
                  ],
              λ h.
                  subst (λ (x : List Bool). IsMarked x j) (sym now)
                  (elim h [ inl old ↦ (m.marks j).1 (inl (subst (λ (x : ℕ). Holds relation x j) e old)) | inr new ↦ (m.marks j).1 (inr new.1) ]),
            )
        | inr ne ↦
            let now : marks_of (set relation i marks) k ≡ marks_of relation k = marks_set_other relation i marks k ne in (
              λ h. inl (subst (λ (x : List Bool). IsMarked x j) now h),
              λ h. elim h [ inl old ↦ subst (λ (x : List Bool). IsMarked x j) (sym now) old | inr new ↦ absurd (ne new.0) ],
            )
      ];
}

-- ---- two lists of one length
pub zip_length : {A B : Type 0} (R : A → B → Type 0) (xs : List A) (ys : List B) → AllZip R xs ys → length xs ≡ length ys
zip_length R [] [] h = refl
zip_length R [] (y ∷ ys) h = absurd h
zip_length R (x ∷ xs) [] h = absurd h
zip_length R (x ∷ xs) (y ∷ ys) h = ap suc (zip_length R xs ys h.1)

pub zip_at : {A B : Type 0} (R : A → B → Type 0) (xs : List A) (ys : List B) (i : ℕ) (d : A) (e : B) → AllZip R xs ys → i < length xs → R (get_or xs i d) (get_or ys i e)
zip_at R [] [] i d e h inside = absurd (omega (arith, inside))
zip_at R [] (y ∷ ys) i d e h inside = absurd h
zip_at R (x ∷ xs) [] i d e h inside = absurd h
zip_at R (x ∷ xs) (y ∷ ys) zero d e h inside = h.0
zip_at R (x ∷ xs) (y ∷ ys) (suc i) d e h inside = zip_at R xs ys i d e h.1 (omega (arith, inside))

-- ---- rows as they are read
pub marks_default : (relation : List (List Bool)) (i : ℕ) (d : List Bool) → i < length relation → get_or relation i d ≡ marks_of relation i
unfolding marks_of
marks_default relation i d inside = get_or_default relation i d [] inside

pub row_width : (n : ℕ) (relation : List (List Bool)) (i : ℕ) (d : List Bool) → IsSquare n relation → i < n → length (get_or relation i d) ≡ n
row_width n relation i d square inside = ap length (marks_default relation i d (omega (arith, square.count))) ∙ square.width i inside

pub extends_at : (P : ℕ → Type 0) (relation : List (List Bool)) (i : ℕ) (d marks : List Bool) → IsSquare (length relation) relation → i < length relation → Marks P (get_or relation i d) marks
    → Extends (λ k j. (k ≡ i) × P j) relation (set relation i marks)
extends_at P relation i d marks square inside m = extends_row P relation i marks square inside (subst (λ (l : List Bool). Marks P l marks) (marks_default relation i d inside) m)

pub held_at : (relation : List (List Bool)) (i j : ℕ) (d : List Bool) → i < length relation → IsMarked (get_or relation i d) j ↔ Holds relation i j
held_at relation i j d inside =
    let is = marks_default relation i d inside in
    (λ h. subst (λ (l : List Bool). IsMarked l j) is h, λ h. subst (λ (l : List Bool). IsMarked l j) (sym is) h)

-- what stands after class n, as a set
abbrev pub IsAfter : List (List Bool) → ℕ → List Bool → Type 0
IsAfter relation n others = (j : ℕ) → IsMarked others j ↔ Holds relation n j

pub is_after : (relation : List (List Bool)) (n : ℕ) (d others : List Bool) → n < length relation → others ≡ get_or relation n d → IsAfter relation n others
is_after relation n d others inside e j =
    let held = held_at relation n j d inside in (
      λ h. held.0 (subst (λ (l : List Bool). IsMarked l j) e h),
      λ h. subst (λ (l : List Bool). IsMarked l j) (sym e) (held.1 h),
    )

-- ---- no classes are related
pub record EmptyFirst (n k : ℕ) (relation : List (List Bool)) : Type 0 where
  pub count : length relation ≡ k
  pub width : (i : ℕ) → i < k → length (marks_of relation i) ≡ n
  pub none : (i j : ℕ) → ¬ Holds relation i j

pub empty_none : (n : ℕ) → EmptyFirst n 0 []
unfolding marks_of
empty_none n = record { count = refl; width = λ i low. absurd (omega (arith, low)); none = λ i j h. not_marked j h }

pub empty_more : (n k : ℕ) (relation last : List (List Bool)) (marks : List Bool) → EmptyFirst n k relation → length marks ≡ n → ((j : ℕ) → ¬ IsMarked marks j) → last ≡ relation ++ marks ∷ [] → EmptyFirst n (k + 1) last
unfolding marks_of
empty_more n k relation last marks given size none e = subst (EmptyFirst n (k + 1)) (sym e) (record {
  count = length-append relation (marks ∷ []) ∙ omega (arith, given.count);
  width = λ i low.
      elim (cases_lt i (length relation)) [
        | inl l ↦ ap length (get_or_append_left relation (marks ∷ []) [] i l) ∙ given.width i (omega (arith, given.count))
        | inr m ↦ let at : i ≡ length relation = omega (arith, given.count) in ap (λ (x : ℕ). length (get_or (relation ++ marks ∷ []) x [])) at ∙ ap length (get_or-append_seam relation marks [] []) ∙ size
      ];
  none = λ i j h.
      elim (cases_lt i (length relation)) [
        | inl l ↦ given.none i j (subst (λ (x : List Bool). IsMarked x j) (get_or_append_left relation (marks ∷ []) [] i l) h)
        | inr m ↦ beyond i j m h
      ];
})
  where
    beyond : (i j : ℕ) → length relation ≤ i → IsMarked (get_or (relation ++ marks ∷ []) i []) j → ⊥
    beyond i j m h =
        let end_is : get_or (relation ++ marks ∷ []) i [] ≡ get_or (marks ∷ []) (i - length relation) [] = get_or-append_right relation (marks ∷ []) (length relation) i [] refl m in
        end (i - length relation) j (subst (λ (x : List Bool). IsMarked x j) end_is h)
      where
        end : (k j : ℕ) → IsMarked (get_or (marks ∷ []) k []) j → ⊥
        end zero j h = none j h
        end (suc k) j h = not_marked j h

pub empty_all : (n k : ℕ) (relation : List (List Bool)) → n ≤ k → k ≤ n → EmptyFirst n k relation → IsEmpty n relation
empty_all n k relation up low given =
    let same : k ≡ n = omega arith in
    record { square = record { count = given.count ∙ same; width = λ i inside. given.width i (omega arith) }; none = given.none }

pub extends_none : (P : ℕ → ℕ → Type 0) (relation : List (List Bool)) → IsSquare (length relation) relation → ((i j : ℕ) → ¬ P i j) → Extends P relation relation
extends_none P relation square none = record { square = square; holds = λ i j. (λ h. inl h, λ h. elim h [ inl old ↦ old | inr new ↦ absurd (none i j new) ]) }

pub extends_then : (P Q R : ℕ → ℕ → Type 0) (first then last : List (List Bool)) → Extends P first then → Extends Q then last → ((i j : ℕ) → R i j ↔ (P i j ⊎ Q i j)) → Extends R first last
extends_then P Q R first then last p q r = record {
  square = subst (λ (n : ℕ). IsSquare n last) p.square.count q.square;
  holds = λ i j. (
    λ h.
        elim ((q.holds i j).0 h) [
          | inl old ↦ elim ((p.holds i j).0 old) [ inl before ↦ inl before | inr new ↦ inr ((r i j).1 (inl new)) ]
          | inr new ↦ inr ((r i j).1 (inr new))
        ],
    λ h.
        elim h [
          | inl old ↦ (q.holds i j).1 (inl ((p.holds i j).1 (inl old)))
          | inr new ↦ elim ((r i j).0 new) [ inl left ↦ (q.holds i j).1 (inl ((p.holds i j).1 (inr left))) | inr right ↦ (q.holds i j).1 (inr right) ]
        ],
  );
}

pub extends_same : (P Q : ℕ → ℕ → Type 0) (before after : List (List Bool)) → Extends P before after → ((i j : ℕ) → Q i j ↔ P i j) → Extends Q before after
extends_same P Q before after p q = record {
  square = p.square;
  holds = λ i j. (
    λ h. elim ((p.holds i j).0 h) [ inl old ↦ inl old | inr new ↦ inr ((q i j).1 new) ],
    λ h. (p.holds i j).1 (elim h [ inl old ↦ inl old | inr new ↦ inr ((q i j).0 new) ]),
  );
}

-- ---- owners, one declaration after another
module _ (lineage : List (List ℕ)) (owned : List MetaOwns) where
  pub owned_more : (i : ℕ) (owns : MetaOwns) (parents children : List ℕ) (first then last : List (List Bool)) → slice_get owned i ≡ Some owns → parents ≡ row lineage owns.parent → children ≡ row lineage owns.child
      → Extends (AmongFirst (OwnsRows lineage) owned i) first then → Extends (Joins parents children) then last → Extends (AmongFirst (OwnsRows lineage) owned (i + 1)) first last
  owned_more i owns parents children first then last is e f p q =
      let joined : Extends (OwnsRows lineage i owns) then last = subst (λ (r : List ℕ). Extends (Joins (row lineage owns.parent) r) then last) f (subst (λ (r : List ℕ). Extends (Joins r children) then last) e q) in
      extends_then (AmongFirst (OwnsRows lineage) owned i) (OwnsRows lineage i owns) (AmongFirst (OwnsRows lineage) owned (i + 1)) first then last p joined (among_more (OwnsRows lineage) owned i owns is)

  pub owned_all : (i : ℕ) (before after : List (List Bool)) → length owned ≤ i → Extends (AmongFirst (OwnsRows lineage) owned i) before after → Extends (IsOwned lineage owned) before after
  owned_all i before after past p = extends_same (AmongFirst (OwnsRows lineage) owned i) (IsOwned lineage owned) before after p (among_all (OwnsRows lineage) owned i past)

-- the later one is as large
pub square_after : (P : ℕ → ℕ → Type 0) (before after : List (List Bool)) → Extends P before after → IsSquare (length after) after
square_after P before after p = subst (λ (n : ℕ). IsSquare n after) (sym p.square.count) p.square

pub relate_more : (firsts others : List ℕ) (i : ℕ) (first then last : List (List Bool)) → i < length firsts
    → Extends (Joins (take i firsts) others) first then → Extends (λ a b. (a ≡ get_or firsts i 0) × Contains others b) then last
    → Extends (Joins (take (i + 1) firsts) others) first last
relate_more firsts others i first then last inside p q =
    extends_then (Joins (take i firsts) others) (λ x y. (x ≡ get_or firsts i 0) × Contains others y) (Joins (take (i + 1) firsts) others) first then last p q
    (λ a b. (
      λ h. elim ((first_more firsts i 0 inside a).0 h.0) [ inl old ↦ inl (old, h.1) | inr new ↦ inr (new, h.1) ],
      λ h. elim h [ inl old ↦ ((first_more firsts i 0 inside a).1 (inl old.0), old.1) | inr new ↦ ((first_more firsts i 0 inside a).1 (inr new.0), new.1) ],
    ))

pub relate_all : (firsts others : List ℕ) (i : ℕ) (before after : List (List Bool)) → length firsts ≤ i → Extends (Joins (take i firsts) others) before after → Extends (Joins firsts others) before after
relate_all firsts others i before after past p = subst (λ (l : List ℕ). Extends (Joins l others) before after) (take_all i firsts past) p

pub own_more : (n : ℕ) (first then last : List (List Bool)) → Extends (IsOwn n) first then → Extends (λ i j. (i ≡ n) × (j ≡ n)) then last → Extends (IsOwn (n + 1)) first last
own_more n first then last p q =
    extends_then (IsOwn n) (λ i j. (i ≡ n) × (j ≡ n)) (IsOwn (n + 1)) first then last p q
    (λ i j. (
      λ h. elim (cases_eq i n) [ inl e ↦ inr (e, sym h.1 ∙ e) | inr ne ↦ inl (omega (arith, h.0), h.1) ],
      λ h. elim h [ inl old ↦ (omega (arith, old.0), old.1) | inr new ↦ (omega (arith, new.0), new.0 ∙ sym new.1) ],
    ))

-- ---- by way of one class
abbrev pub PassesFirst : List (List Bool) → ℕ → List Bool → ℕ → ℕ → ℕ → Type 0
PassesFirst relation k others n i j = (i < n) × Passes relation k others i j

pub pass_yes : (relation : List (List Bool)) (k : ℕ) (others : List Bool) (n : ℕ) (then last : List (List Bool)) → Holds then n k → Extends (PassesFirst relation k others n) relation then
    → Extends (λ i j. (i ≡ n) × IsMarked others j) then last → Extends (PassesFirst relation k others (n + 1)) relation last
pass_yes relation k others n then last has p q =
    let before : Holds relation n k = elim ((p.holds n k).0 has) [ inl old ↦ old | inr new ↦ absurd (omega (arith, new.0)) ] in
    extends_then (PassesFirst relation k others n) (λ i j. (i ≡ n) × IsMarked others j) (PassesFirst relation k others (n + 1)) relation then last p q
    (λ i j. (
      λ h. elim (cases_eq i n) [ inl e ↦ inr (e, h.1.1) | inr ne ↦ inl (omega (arith, h.0), h.1) ],
      λ h. elim h [ inl old ↦ (omega (arith, old.0), old.1) | inr new ↦ (omega (arith, new.0), (subst (λ (x : ℕ). Holds relation x k) (sym new.0) before, new.1)) ],
    ))

pub pass_no : (relation : List (List Bool)) (k : ℕ) (others : List Bool) (n : ℕ) (then : List (List Bool)) → ¬ Holds then n k → Extends (PassesFirst relation k others n) relation then → Extends (PassesFirst relation k others (n + 1)) relation then
pass_no relation k others n then lacks p =
    extends_same (PassesFirst relation k others n) (PassesFirst relation k others (n + 1)) relation then p
    (λ i j. (
      λ h. elim (cases_eq i n) [ inl e ↦ absurd (lacks ((p.holds n k).1 (inl (subst (λ (x : ℕ). Holds relation x k) e h.1.0)))) | inr ne ↦ (omega (arith, h.0), h.1) ],
      λ h. (omega (arith, h.0), h.1),
    ))

pub pass_all : (relation : List (List Bool)) (k : ℕ) (others : List Bool) (n : ℕ) (after : List (List Bool)) → length relation ≤ n → Extends (PassesFirst relation k others n) relation after → Extends (Passes relation k others) relation after
pass_all relation k others n after past p =
    extends_same (PassesFirst relation k others n) (Passes relation k others) relation after p
    (λ i j. (λ h. let low = marks_inside relation i k h.0 in (omega arith, h), λ h. h.1))

-- ---- chains
pub chains_join : (R : ℕ → ℕ → Type 0) (i k j : ℕ) → Chains R i k → Chains R k j → Chains R i j
chains_join R i k j a (one r) = more a r
chains_join R i k j a (more b r) = more (chains_join R i k _ a b) r

pub closing_none : (relation : List (List Bool)) → IsSquare (length relation) relation → Closing 0 relation relation
closing_none relation square = record {
  square = square;
  kept = λ i j h. h;
  chains = λ i j h. one h;
  closed = λ i k j low. absurd (omega (arith, low));
}

pub closing_more : (n : ℕ) (first then last : List (List Bool)) (others : List Bool) → Closing n first then → IsAfter then n others → Extends (Passes then n others) then last → Closing (n + 1) first last
closing_more n first then last others c listed p =
    let to : (i j : ℕ) → Holds last i j → Holds then i j ⊎ (Holds then i n × Holds then n j) = λ i j h. elim ((p.holds i j).0 h) [ inl old ↦ inl old | inr new ↦ inr (new.0, (listed j).0 new.1) ] in
    let from : (i j : ℕ) → Holds then i n → Holds then n j → Holds last i j = λ i j a b. (p.holds i j).1 (inr (a, (listed j).1 b)) in
    let stay : (i j : ℕ) → Holds then i j → Holds last i j = λ i j h. (p.holds i j).1 (inl h) in
    let to_n : (i : ℕ) → Holds last i n → Holds then i n = λ i h. elim (to i n h) [ inl old ↦ old | inr new ↦ new.0 ] in
    let from_n : (j : ℕ) → Holds last n j → Holds then n j = λ j h. elim (to n j h) [ inl old ↦ old | inr new ↦ new.1 ] in
    record {
      square = subst (λ (m : ℕ). IsSquare m last) c.square.count p.square;
      kept = λ i j h. stay i j (c.kept i j h);
      chains = λ i j h.
          elim (to i j h) [
            | inl old ↦ c.chains i j old
            | inr new ↦ chains_join (Holds first) i n j (c.chains i n new.0) (c.chains n j new.1)
          ];
      closed = λ i k j low a b.
          elim (cases_eq k n) [
            | inl e ↦ from i j (to_n i (subst (λ (x : ℕ). Holds last i x) e a)) (from_n j (subst (λ (x : ℕ). Holds last x j) e b))
            | inr ne ↦ between i k j (omega (arith, low)) (to i k a) (to k j b)
          ];
    }
  where
    between : (i k j : ℕ) → k < n → Holds then i k ⊎ (Holds then i n × Holds then n k) → Holds then k j ⊎ (Holds then k n × Holds then n j) → Holds last i j
    between i k j low (inl a) (inl b) = (p.holds i j).1 (inl (c.closed i k j low a b))
    between i k j low (inl a) (inr b) = (p.holds i j).1 (inr (c.closed i k n low a b.0, (listed j).1 b.1))
    between i k j low (inr a) (inl b) = (p.holds i j).1 (inr (a.0, (listed j).1 (c.closed n k j low a.1 b)))
    between i k j low (inr a) (inr b) = (p.holds i j).1 (inr (a.0, (listed j).1 b.1))

pub closed_all : (n : ℕ) (before after : List (List Bool)) → length before ≤ n → Closing n before after → IsClosed before after
closed_all n before after past c = record { square = c.square; chains = λ i j. (λ h. c.chains i j h, λ h. back i j h) }
  where
    back : (i j : ℕ) → Chains (Holds before) i j → Holds after i j
    back i j (one r) = c.kept i j r
    back i j (more {k = k} a r) =
        let low = marks_inside before k j r in
        c.closed i k j (omega arith) (back i k a) (c.kept k j r)

-- ---- the closures of a program
module _ (p : Loaded) where
  pub below_first : (c d : ℕ) → Below p c d → c < length p.classes
  below_first c d below =
      elim (cases_lt c (length p.classes)) [
        | inl l ↦ l
        | inr m ↦ absurd (below_absent p c d (slice_get_past p.classes c m) below)
      ]

  pub lineage_low : (lineage : List (List ℕ)) (relation : List (List Bool)) → IsLineage p lineage → IsEmpty (length lineage) relation → (c d : ℕ) → Contains (row lineage c) d → d < length relation
  lineage_low lineage relation l e c d h =
      let low = below_first d c ((l.members c d).0 h) in omega (arith, l.count, e.square.count)

  pub below_last : (c d : ℕ) → Below p c d → d < length p.classes
  below_last c d (same is) = slice_get_within p.classes c _ is.is
  below_last c d (under base rest) = below_last _ d rest

  length_from : (xs : List MetaObject) (c : ℕ) → slice_get xs c ≡ None → length xs ≤ c
  length_from [] c e = omega arith
  length_from (x ∷ xs) zero e = absurd (none-some x (sym e))
  length_from (x ∷ xs) (suc c) e = let rest = length_from xs c e in omega arith

  not_past : {m n : ℕ} → m ≤ n → n < m → ⊥
  not_past past low = omega arith

  pub is_class : (c : ℕ) → c < length p.classes → (class : MetaObject) × IsClass p c class
  is_class c inside = at (slice_get p.classes c) refl
    where
      at : (found : Option MetaObject) → slice_get p.classes c ≡ found → (class : MetaObject) × IsClass p c class
      at None e = absurd (not_past (length_from p.classes c e) inside)
      at (Some class) e = (class, record { is = e })

  -- what the lists of classes below say of owners
  pub owned_is : (lineage : List (List ℕ)) (i j : ℕ) → IsLineage p lineage → IsOwned lineage p.owns i j ↔ Owns p i j
  owned_is lineage i j l = (
    λ h. owns_of (record {
      owns = h.item;
      declared = in_list p.owns h.place h.item h.is;
      parent = (l.members h.item.parent i).0 h.leads.0;
      child = (l.members h.item.child j).0 h.leads.1;
    }),
    λ h.
        let o = owned_by h in
        let at = place_in p.owns o.owns o.declared in
        record { place = at.0; item = o.owns; is = at.1; leads = ((l.members o.owns.parent i).1 o.parent, (l.members o.owns.child j).1 o.child) },
  )

  -- the relation that is closed: owners, and each class with itself
  abbrev pub IsFirst : List (List Bool) → Type 0
  IsFirst relation = (i j : ℕ) → Holds relation i j ↔ (Owns p i j ⊎ IsOwn (length p.classes) i j)

  pub first_is : (lineage : List (List ℕ)) (empty owned own : List (List Bool)) → IsLineage p lineage → IsEmpty (length lineage) empty → Extends (IsOwned lineage p.owns) empty owned → Extends (IsOwn (length owned)) owned own → IsFirst own
  first_is lineage empty owned own l e o w i j =
      let count : length owned ≡ length p.classes = o.square.count ∙ e.square.count ∙ l.count in (
        λ h.
            elim ((w.holds i j).0 h) [
              | inl old ↦ elim ((o.holds i j).0 old) [ inl none ↦ absurd (e.none i j none) | inr owns ↦ inl ((owned_is lineage i j l).0 owns) ]
              | inr is ↦ inr (subst (λ (n : ℕ). IsOwn n i j) count is)
            ],
        λ h.
            elim h [
              | inl owns ↦ (w.holds i j).1 (inl ((o.holds i j).1 (inr ((owned_is lineage i j l).1 owns))))
              | inr is ↦ (w.holds i j).1 (inr (subst (λ (n : ℕ). IsOwn n i j) (sym count) is))
            ],
      )

  owner_first : (i j : ℕ) → Owns p i j → i < length p.classes
  owner_first i j h = let o = owned_by h in below_first i o.owns.parent o.parent

  itself_at : (c : ℕ) → c < length p.classes → Closure p c c
  itself_at c inside = let at = is_class c inside in itself at.1

  join_closures : (c d e : ℕ) → Closure p c d → Closure p d e → Closure p c e
  join_closures c d e a (itself is) = a
  join_closures c d e a (child b owns) = child (join_closures c d _ a b) owns

  closure_first : (c d : ℕ) → Closure p c d → c < length p.classes
  closure_first c d (itself is) = slice_get_within p.classes c _ is.is
  closure_first c d (child a owns) = closure_first c _ a

  to_closure : (relation : List (List Bool)) → IsFirst relation → (i j : ℕ) → Chains (Holds relation) i j → Closure p i j
  to_closure relation first i j (one r) = step i j ((first i j).0 r)
    where
      step : (i j : ℕ) → Owns p i j ⊎ IsOwn (length p.classes) i j → Closure p i j
      step i j (inl owns) = child (itself_at i (owner_first i j owns)) owns
      step i j (inr is) = subst (λ (x : ℕ). Closure p i x) is.1 (itself_at i is.0)
  to_closure relation first i j (more a r) = step i _ j (to_closure relation first i _ a) ((first _ j).0 r)
    where
      step : (i k j : ℕ) → Closure p i k → Owns p k j ⊎ IsOwn (length p.classes) k j → Closure p i j
      step i k j c (inl owns) = child c owns
      step i k j c (inr is) = subst (λ (x : ℕ). Closure p i x) is.1 c

  from_closure : (relation : List (List Bool)) → IsFirst relation → (i j : ℕ) → Closure p i j → Chains (Holds relation) i j
  from_closure relation first i j (itself is) = one ((first i i).1 (inr (slice_get_within p.classes i _ is.is, refl)))
  from_closure relation first i j (child a owns) = more (from_closure relation first i _ a) ((first _ j).1 (inl owns))

  -- the closed relation, in lists
  pub closures_are : (first closed : List (List Bool)) (lists : List (List ℕ)) → length first ≡ length p.classes → IsFirst first → IsClosed first closed → AreListed closed lists → AreClosures p lists
  unfolding row marks_of
  closures_are first closed lists size is c listed =
      let count : length closed ≡ length lists = zip_length (λ marks list. Lists (IsMarked marks) (length marks) list) closed lists listed in
      let rows : length closed ≡ length p.classes = c.square.count ∙ size in
      let at : (i : ℕ) → i < length closed → Lists (IsMarked (get_or closed i [])) (length (get_or closed i [])) (get_or lists i []) = λ i low. zip_at (λ marks list. Lists (IsMarked marks) (length marks) list) closed lists i [] [] listed low in
      record {
        count = sym count ∙ rows;
        members = λ i j. (
          λ h.
              let low = edge_inside lists i j h in
              let marked = ((at i (omega arith)).members j).0 h in
              to_closure first is i j ((c.chains i j).0 marked.1),
          λ h.
              let low = closure_first i j h in
              let holds = (c.chains i j).1 (from_closure first is i j h) in
              ((at i (omega arith)).members j).1 (marked_inside (get_or closed i []) j holds, holds),
        );
        increasing = λ i.
            elim (cases_lt i (length closed)) [
              | inl l ↦ (at i l).increasing
              | inr m ↦ let past : get_or lists i [] ≡ [] = get_or_past lists i [] (omega arith) in rw past (λ k low. absurd (omega (arith, low)))
            ];
      }
