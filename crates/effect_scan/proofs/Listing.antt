-- Lists of numbers, one number after another.
use Rattle.std.{proofs.Common.{◌≡◌, ◌↔◌, ◌⊎◌, inl, inr, ℕ, ◌+◌, ◌-◌, ◌<◌, ◌≤◌, List, [], ◌∷◌, ◌++◌, length, get_or, take, drop, slice_get, Some, eqb, IsPermutation, refl, sym, ap, ◌∙◌, subst, subst₂, arith, take-append-drop, length-drop}, specs.List.{Contains, dedup}, specs.List.Sorted.{IsStrictlyIncreasing, IsSorted}, specs.Ordering.{nat_cmp}, proofs.lemmas.Bool.{cases_eq, cases_lt}, proofs.lemmas.List.{length-append, get_or_append_left, take_all, take_more}, proofs.Math.Seq.{get_or-append_seam}, proofs.lemmas.List.Elements.{Contains-get_or, Contains-append_left, Contains-append_right, Contains-append_cases, Contains-push, Contains-push_cases}, proofs.lemmas.List.Sorted.{Contains-permutation, IsPermutation-sym}, proofs.lemmas.List.Kept.{Contains-dedup_nat, Contains-from_dedup}, proofs.lemmas.Map.Keys.{IsStrictlyIncreasing-dedup}, proofs.lemmas.Option.{slice_get_within, same_Some}}
use Rattle.effect_scan.{specs.code.Adding.{IsOrdered, HasBoth}, specs.declared.node.Node.{Node}, specs.declared.node.Member.{Member}, specs.declared.node.Member.TheVariants.{Property}, specs.declared.places.NodePlaces.{NodePlaces}, specs.Nodes.{node, IsAt}, specs.code.NodePlaces.{Lists, AreJust, InEach, InBelow, IsRead, OfSome}, proofs.Adding.{no_members, first_more}}
use Rattle.meta_model.specs.declared.site.SourceProperty.{SourceProperty}

pub increasing_none : IsStrictlyIncreasing []
increasing_none k inside = absurd (omega (arith, inside))

-- a number that is above all others goes to the end
pub increasing_more : (xs : List ℕ) (n : ℕ) → IsStrictlyIncreasing xs → ((m : ℕ) → Contains xs m → m < n) → IsStrictlyIncreasing (xs ++ n ∷ [])
increasing_more xs n up low k inside =
    let count : length (xs ++ n ∷ []) ≡ length xs + 1 = length-append xs (n ∷ []) in
    let at_k : get_or (xs ++ n ∷ []) k 0 ≡ get_or xs k 0 = get_or_append_left xs (n ∷ []) 0 k (omega arith) in
    elim (cases_lt (k + 1) (length xs)) [
      | inl l ↦
          let at_next : get_or (xs ++ n ∷ []) (k + 1) 0 ≡ get_or xs (k + 1) 0 = get_or_append_left xs (n ∷ []) 0 (k + 1) l in
          rw (at_k, at_next) (up k l)
      | inr m ↦
          let last : k + 1 ≡ length xs = omega arith in
          let at_next : get_or (xs ++ n ∷ []) (k + 1) 0 ≡ n = ap (λ (j : ℕ). get_or (xs ++ n ∷ []) j 0) last ∙ get_or-append_seam xs n [] 0 in
          rw (at_k, at_next) (low (get_or xs k 0) (Contains-get_or xs k 0 (omega arith)))
    ]

-- ---- lists that are looked at number by number
-- each number up to this place is above the one before it
pub rises_more : (xs : List ℕ) (i : ℕ) → 1 ≤ i → ((k : ℕ) → k + 1 < i → get_or xs k 0 < get_or xs (k + 1) 0) → get_or xs (i - 1) 0 < get_or xs i 0 → (k : ℕ) → k + 1 < i + 1 → get_or xs k 0 < get_or xs (k + 1) 0
rises_more xs i least before now k low =
    elim (cases_eq (k + 1) i) [
      | inl same ↦
          let e : i - 1 ≡ k = omega (arith, same) in
          subst (λ (j : ℕ). get_or xs k 0 < get_or xs j 0) (sym same) (subst (λ (j : ℕ). get_or xs j 0 < get_or xs i 0) e now)
      | inr ne ↦ before k (omega (arith, low, ne))
    ]

-- a list of one number is that number alone
pub one_number : (xs : List ℕ) → length xs ≡ 1 → get_or xs 0 0 ∷ [] ≡ xs
one_number [] e = absurd (omega (arith, e))
one_number (x ∷ []) e = refl
one_number (x ∷ y ∷ ys) e = absurd (omega (arith, e))

pub increasing_ordered : (xs : List ℕ) → IsStrictlyIncreasing xs → IsOrdered xs xs
increasing_ordered xs up = record { same = λ n. (λ h. h, λ h. h); increasing = up }

module _ (P : ℕ → Type 0) where
  pub lists_none : Lists P 0 []
  lists_none = record {
    members = λ n. (λ h. absurd (no_members n h), λ h. absurd (omega (arith, h.0)));
    increasing = increasing_none;
  }

  pub lists_yes : (n : ℕ) (xs ys : List ℕ) → Lists P n xs → P n → ys ≡ xs ++ n ∷ [] → Lists P (n + 1) ys
  lists_yes n xs ys l has e =
      let given : Lists P (n + 1) (xs ++ n ∷ []) = record {
        members = λ m. (
          λ h.
              elim (Contains-push_cases xs n m h) [
                | inl old ↦ let k = (l.members m).0 old in (omega (arith, k.0), k.1)
                | inr same ↦ (omega arith, subst P same has)
              ],
          λ h.
              elim (cases_eq m n) [
                | inl same ↦ subst (λ (x : ℕ). Contains (xs ++ n ∷ []) x) (sym same) (Contains-push xs n)
                | inr other ↦ Contains-append_left xs (n ∷ []) m ((l.members m).1 (omega (arith, h.0), h.1))
              ],
        );
        increasing = increasing_more xs n l.increasing (λ m h. ((l.members m).0 h).0);
      } in
      subst (Lists P (n + 1)) (sym e) given

  pub lists_no : (n : ℕ) (xs : List ℕ) → Lists P n xs → ¬ P n → Lists P (n + 1) xs
  lists_no n xs l lacks = record {
    members = λ m. (
      λ h. let k = (l.members m).0 h in (omega (arith, k.0), k.1),
      λ h.
          elim (cases_eq m n) [
            | inl same ↦ absurd (lacks (subst P same h.1))
            | inr other ↦ (l.members m).1 (omega (arith, h.0), h.1)
          ],
    );
    increasing = l.increasing;
  }

-- ---- the numbers of nodes
pub just_none : (P : ℕ → Type 0) → ((n : ℕ) → ¬ P n) → AreJust P []
just_none P none n = (λ h. absurd (no_members n h), λ h. absurd (none n h))

-- ---- the numbers that some of a list have
module _ {X : Type 0} (P : X → ℕ → Type 0) (xs : List X) where
  pub some_none : AreJust (OfSome P (take 0 xs)) []
  some_none = just_none (OfSome P (take 0 xs)) (λ n h. no_members h.0 h.1)

  pub some_more : (i : ℕ) (x : X) (ns found ms : List ℕ) → i < length xs → x ≡ get_or xs i x → AreJust (OfSome P (take i xs)) ns → AreJust (P x) found → ms ≡ ns ++ found → AreJust (OfSome P (take (i + 1) xs)) ms
  some_more i x ns found ms inside is just new eq m = (
    λ h.
        elim (Contains-append_cases ns found m (subst (λ (l : List ℕ). Contains l m) eq h)) [
          | inl old ↦ let k = (just m).0 old in (k.0, (first_more xs i x inside k.0).1 (inl k.1), k.2)
          | inr now ↦ (x, (first_more xs i x inside x).1 (inr is), (new m).0 now)
        ],
    λ h.
        subst (λ (l : List ℕ). Contains l m) (sym eq)
        (elim ((first_more xs i x inside h.0).0 h.1) [
          | inl old ↦ Contains-append_left ns found m ((just m).1 (h.0, old, h.2))
          | inr same ↦ Contains-append_right ns found m ((new m).1 (subst (λ (y : X). P y m) (same ∙ sym is) h.2))
        ]),
  )

  pub some_all : (i : ℕ) (ns ms : List ℕ) → length xs ≤ i → AreJust (OfSome P (take i xs)) ns → ((n : ℕ) → Contains ms n ↔ Contains ns n) → AreJust (OfSome P xs) ms
  some_all i ns ms past just same n =
      let all : AreJust (OfSome P xs) ns = subst (λ (l : List X). AreJust (OfSome P l) ns) (take_all i xs past) just in
      (λ h. (all n).0 ((same n).0 h), λ h. (same n).1 ((all n).1 h))

-- ---- numbers below the number of nodes
pub at_low : (nodes : List Node) (x : Node) (n : ℕ) → IsAt nodes x n → n < length nodes
at_low nodes x n is = slice_get_within nodes n x is

pub each_low : (nodes : List Node) (classes : List ℕ) (member : Member) (rows : List (List ℕ)) (from sources : List ℕ) → AreJust (InEach nodes classes member) from → sources ≡ from → length rows ≡ length nodes → (a : ℕ) → Contains sources a → a < length rows
each_low nodes classes member rows from sources just e count a h =
    let found = (just a).0 (subst (λ (l : List ℕ). Contains l a) e h) in
    let low = at_low nodes (node found.0 member) a found.2 in omega arith

-- ---- lists that are sorted
pub ordered_is : (numbers first sorted last list : List ℕ) → first ≡ numbers → IsPermutation first sorted → IsSorted nat_cmp sorted → last ≡ dedup eqb sorted → list ≡ last → IsOrdered numbers list
ordered_is numbers first sorted last list e p s d f =
    let is : list ≡ dedup eqb sorted = f ∙ d in
    record {
      same = λ n. (
        λ h.
            let in_sorted = Contains-from_dedup eqb sorted n (subst (λ (l : List ℕ). Contains l n) is h) in
            subst (λ (l : List ℕ). Contains l n) e (Contains-permutation sorted first n (IsPermutation-sym first sorted p) in_sorted),
        λ h.
            let in_sorted = Contains-permutation first sorted n p (subst (λ (l : List ℕ). Contains l n) (sym e) h) in
            subst (λ (l : List ℕ). Contains l n) (sym is) (Contains-dedup_nat sorted n in_sorted),
      );
      increasing = subst IsStrictlyIncreasing (sym is) (IsStrictlyIncreasing-dedup sorted s);
    }

-- ---- lists that are merged
-- the first numbers of both lists
abbrev pub HasFirst : List ℕ → List ℕ → ℕ → ℕ → List ℕ → Type 0
HasFirst first other i j all = HasBoth (take i first) (take j other) all

pub both_none : (first other all : List ℕ) → all ≡ [] → HasFirst first other 0 0 all
both_none first other all none n = (
  λ h. absurd (no_members n (subst (λ (l : List ℕ). Contains l n) none h)),
  λ h. elim h [ inl x ↦ absurd (no_members n x) | inr y ↦ absurd (no_members n y) ],
)

both_swap : (first other all : List ℕ) → HasBoth first other all → HasBoth other first all
both_swap first other all both n = (
  λ h. elim ((both n).0 h) [ inl x ↦ inr x | inr y ↦ inl y ],
  λ h. elim h [ inl y ↦ (both n).1 (inr y) | inr x ↦ (both n).1 (inl x) ],
)

-- the next number of the first list
pub both_left : (first other all after : List ℕ) (i j x : ℕ) → i < length first → x ≡ get_or first i 0 → HasFirst first other i j all → after ≡ all ++ x ∷ [] → HasFirst first other (i + 1) j after
both_left first other all after i j x inside is both pushed n =
    subst₂ (λ (l m : List ℕ). Contains l n ↔ (Contains m n ⊎ Contains (take j other) n)) (sym pushed) (sym (take_more first i 0 inside ∙ ap (λ (y : ℕ). take i first ++ y ∷ []) (sym is))) (
      λ h.
          elim (Contains-push_cases all x n h) [
            | inl old ↦ elim ((both n).0 old) [ inl a ↦ inl (Contains-append_left (take i first) (x ∷ []) n a) | inr b ↦ inr b ]
            | inr same ↦ inl (subst (λ (y : ℕ). Contains (take i first ++ x ∷ []) y) same (Contains-push (take i first) x))
          ],
      λ h.
          elim h [
            | inl a ↦
                elim (Contains-push_cases (take i first) x n a) [
                  | inl old ↦ Contains-append_left all (x ∷ []) n ((both n).1 (inl old))
                  | inr same ↦ subst (λ (y : ℕ). Contains (all ++ x ∷ []) y) same (Contains-push all x)
                ]
            | inr b ↦ Contains-append_left all (x ∷ []) n ((both n).1 (inr b))
          ],
    )

-- the next number of the other list
pub both_right : (first other all after : List ℕ) (i j x : ℕ) → j < length other → x ≡ get_or other j 0 → HasFirst first other i j all → after ≡ all ++ x ∷ [] → HasFirst first other i (j + 1) after
both_right first other all after i j x inside is both pushed =
    both_swap (take (j + 1) other) (take i first) after (both_left other first all after j i x inside is (both_swap (take i first) (take j other) all both) pushed)

-- the next number of the first list is there
pub both_again : (first other all : List ℕ) (i j x : ℕ) → i < length first → x ≡ get_or first i 0 → Contains all x → HasFirst first other i j all → HasFirst first other (i + 1) j all
both_again first other all i j x inside is there both n =
    subst (λ (m : List ℕ). Contains all n ↔ (Contains m n ⊎ Contains (take j other) n)) (sym (take_more first i 0 inside ∙ ap (λ (y : ℕ). take i first ++ y ∷ []) (sym is))) (
      λ h. elim ((both n).0 h) [ inl a ↦ inl (Contains-append_left (take i first) (x ∷ []) n a) | inr b ↦ inr b ],
      λ h.
          elim h [
            | inl a ↦
                elim (Contains-push_cases (take i first) x n a) [
                  | inl old ↦ (both n).1 (inl old)
                  | inr same ↦ subst (λ (y : ℕ). Contains all y) same there
                ]
            | inr b ↦ (both n).1 (inr b)
          ],
    )

both_ends : (first other all more after : List ℕ) (i j : ℕ) → HasFirst first other i j all → more ≡ all ++ drop i first → after ≡ more ++ drop j other → HasBoth first other after
both_ends first other all more after i j both one two n = (
  λ h.
      elim (Contains-append_cases more (drop j other) n (subst (λ (l : List ℕ). Contains l n) two h)) [
        | inl before ↦
            elim (Contains-append_cases all (drop i first) n (subst (λ (l : List ℕ). Contains l n) one before)) [
              | inl old ↦
                  elim ((both n).0 old) [
                    | inl a ↦ inl (subst (λ (l : List ℕ). Contains l n) (take-append-drop i first) (Contains-append_left (take i first) (drop i first) n a))
                    | inr b ↦ inr (subst (λ (l : List ℕ). Contains l n) (take-append-drop j other) (Contains-append_left (take j other) (drop j other) n b))
                  ]
              | inr rest ↦ inl (subst (λ (l : List ℕ). Contains l n) (take-append-drop i first) (Contains-append_right (take i first) (drop i first) n rest))
            ]
        | inr rest ↦ inr (subst (λ (l : List ℕ). Contains l n) (take-append-drop j other) (Contains-append_right (take j other) (drop j other) n rest))
      ],
  λ h.
      subst (λ (l : List ℕ). Contains l n) (sym two)
      (elim h [
        | inl a ↦
            elim (Contains-append_cases (take i first) (drop i first) n (subst (λ (l : List ℕ). Contains l n) (sym (take-append-drop i first)) a)) [
              | inl old ↦ Contains-append_left more (drop j other) n (subst (λ (l : List ℕ). Contains l n) (sym one) (Contains-append_left all (drop i first) n ((both n).1 (inl old))))
              | inr rest ↦ Contains-append_left more (drop j other) n (subst (λ (l : List ℕ). Contains l n) (sym one) (Contains-append_right all (drop i first) n rest))
            ]
        | inr b ↦
            elim (Contains-append_cases (take j other) (drop j other) n (subst (λ (l : List ℕ). Contains l n) (sym (take-append-drop j other)) b)) [
              | inl old ↦ Contains-append_left more (drop j other) n (subst (λ (l : List ℕ). Contains l n) (sym one) (Contains-append_left all (drop i first) n ((both n).1 (inr old))))
              | inr rest ↦ Contains-append_right more (drop j other) n rest
            ]
      ]),
)

-- what is left of both goes to the end
pub both_all : (first other all more after : List ℕ) (i j : ℕ) → HasFirst first other i j all → more ≡ all ++ take (length first - i) (drop i first) → after ≡ more ++ take (length other - j) (drop j other) → HasBoth first other after
both_all first other all more after i j both one two = both_ends first other all more after i j both (one ∙ ap (λ (l : List ℕ). all ++ l) (the_rest first i)) (two ∙ ap (λ (l : List ℕ). more ++ l) (the_rest other j))
  where
    the_rest : (xs : List ℕ) (k : ℕ) → take (length xs - k) (drop k xs) ≡ drop k xs
    the_rest xs k = take_all (length xs - k) (drop k xs) (omega (arith, length-drop k xs))

-- ---- lists of numbers of nodes
pub some_low : {X : Type 0} (P : X → ℕ → Type 0) (xs : List X) (rows : List (List ℕ)) (from sources : List ℕ) → ((x : X) (n : ℕ) → P x n → n < length rows) → AreJust (OfSome P xs) from → sources ≡ from → (a : ℕ) → Contains sources a → a < length rows
some_low P xs rows from sources low just e a h =
    let found = (just a).0 (subst (λ (l : List ℕ). Contains l a) e h) in low found.0 a found.2

-- ---- sources
pub read_there : (places : NodePlaces) (formals : List ℕ) (source : SourceProperty) (class : ℕ) (found : List ℕ) → slice_get formals source.source ≡ Some class → AreJust (InBelow places class (Property source.property)) found → AreJust (IsRead places formals source) found
read_there places formals source class found is just n = (
  λ h. (class, is, (just n).0 h),
  λ h. (just n).1 (subst (λ (c : ℕ). InBelow places c (Property source.property) n) (same_Some _ _ (sym h.1 ∙ is)) h.2),
)
