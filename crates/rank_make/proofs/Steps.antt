-- Rows, names and lines that are made element by element.
use Rattle.std.{proofs.Common.{◌≡◌, ◌↔◌, ◌⊎◌, inl, inr, Bool, false, ℕ, zero, suc, ◌+◌, ◌<◌, List, [], ◌∷◌, ◌++◌, length, map, get_or, take, slice_get, Some, replicate, refl, sym, ap, ◌∙◌, subst, arith}, specs.List.{AllZip, Contains}, proofs.lemmas.Bool.{cases_eq}, proofs.lemmas.List.{length-append, length-replicate, take_more, map-append, get_or_default}, proofs.lemmas.List.Elements.{Contains-append_left, Contains-push, Contains-push_cases}, proofs.lemmas.Option.{slice_get-get_or, same_Some, none-some}}
use Rattle.meta_model.{specs.Loaded.{Loaded}, proofs.Zips.{zip_append, zip_push}}
use Rattle.effect_scan.{specs.declared.node.Node.{Node}, specs.Nodes.{nodes_of, IsAt}, specs.Destroying.{Closure}, proofs.Adding.{no_members}, proofs.Listing.{increasing_none, increasing_more}, proofs.Numbered.{get_either}}
use Rattle.class_sets.specs.Marks.{IsMarked, Marks}
use Rattle.certificate_lang.specs.{declared.certificate.SetItem.{SetItem}, declared.certificate.Line.{Line}}
use Rattle.rank_check.proofs.Listing.{unmarked}
use Rattle.rank_make.{specs.Least.{IsImplied, IsClosureOf}, specs.Solved.{own_of, AreItems, IsLineFor, AreLinesTo}, proofs.Placed.{one_at}}

-- ---- rows
pub own_more : (closures : List (List ℕ)) (items : List Node) (i : ℕ) (x : Node) (r : List ℕ) (rows more : List (List ℕ)) → i < length items → x ≡ get_or items i x → r ≡ own_of closures x
    → rows ≡ map (own_of closures) (take i items) → more ≡ rows ++ r ∷ [] → more ≡ map (own_of closures) (take (i + 1) items)
own_more closures items i x r rows more inside is made before e =
    e ∙ ap (λ (l : List (List ℕ)). l ++ r ∷ []) before ∙ ap (λ (s : List ℕ). map (own_of closures) (take i items) ++ s ∷ []) made
    ∙ sym (map-append (own_of closures) (take i items) (x ∷ []))
    ∙ ap (λ (y : Node). map (own_of closures) (take i items ++ y ∷ [])) is ∙ sym (ap (map (own_of closures)) (take_more items i x inside))

-- ---- nodes by their numbers
pub nodes_more : (nodes all items more : List Node) (numbers : List ℕ) (i : ℕ) (d : Node) → i < length numbers → all ≡ nodes → get_or numbers i 0 < length all → AllZip (λ n x. IsAt nodes x n) (take i numbers) items
    → more ≡ items ++ get_or all (get_or numbers i 0) d ∷ [] → AllZip (λ n x. IsAt nodes x n) (take (i + 1) numbers) more
nodes_more nodes all items more numbers i d inside same low before e =
    zip_push (λ n x. IsAt nodes x n) numbers items more i (get_or numbers i 0) (get_or all (get_or numbers i 0) d) inside (sym (get_or_default numbers i (get_or numbers i 0) 0 inside))
    (subst (λ (ns : List Node). slice_get ns (get_or numbers i 0) ≡ Some (get_or all (get_or numbers i 0) d)) same (slice_get-get_or all (get_or numbers i 0) d low)) before e

-- ---- items of sets

-- the items of the classes with P below the end, and which classes are in the closures of those
pub record WrittenSoFar (p : Loaded) (P : ℕ → Type 0) (end : ℕ) (items : List SetItem) (implied : List Bool) : Type 0 where
  pub are : AreItems p P end items
  pub count : length implied ≡ length p.classes
  pub marks : (d : ℕ) → IsMarked implied d ↔ ((w : ℕ) × Contains are.classes w × Closure p w d)

module _ (p : Loaded) (P : ℕ → Type 0) where
  -- of no class nothing is written
  pub items_of_none : (count : ℕ) (items : List SetItem) → ((d : ℕ) → ¬ P d) → items ≡ [] → AreItems p P count items
  items_of_none count items none e =
      let are : AreItems p P count [] = record {
        classes = [];
        closures = tt;
        written = record { each = λ d held. absurd (no_members d held); all = λ d h. absurd (none d h.1); increasing = increasing_none };
      } in
      subst (λ (l : List SetItem). AreItems p P count l) (sym e) are

  pub items_none : (count : ℕ) → count ≡ length p.classes → WrittenSoFar p P 0 [] (replicate count false)
  items_none count e = record {
    are = record {
      classes = [];
      closures = tt;
      written = record { each = λ d held. absurd (no_members d held); all = λ d h. absurd (omega (arith, h.0)); increasing = increasing_none };
    };
    count = length-replicate count false ∙ e;
    marks = λ d. (λ h. absurd (unmarked count d h), λ h. absurd (no_members h.0 h.1));
  }

  module _ (n : ℕ) (items : List SetItem) (implied : List Bool) (h : WrittenSoFar p P n items implied) where
    low : (e : ℕ) → Contains h.are.classes e → e < n
    low e held = ((h.are.written.each e held).0).0

    -- a class that isn't in the set, or is in the closure of one that is written, is passed over
    pub items_no : (P n → IsMarked implied n) → WrittenSoFar p P (n + 1) items implied
    items_no skipped = record {
      are = record {
        classes = h.are.classes;
        closures = h.are.closures;
        written = record {
          each = λ e held. let old = h.are.written.each e held in ((omega (arith, old.0.0), old.0.1), old.1);
          all = λ e is.
              elim (cases_eq e n) [
                | inl here ↦
                    let in_closure = (h.marks n).0 (skipped (subst P here is.1)) in
                    inr (record { before = in_closure.0; among = in_closure.1; lower = subst (λ (x : ℕ). in_closure.0 < x) (sym here) (low in_closure.0 in_closure.1); closure = subst (λ (x : ℕ). Closure p in_closure.0 x) (sym here) in_closure.2 })
                | inr other ↦ h.are.written.all e (omega (arith, is.0, other), is.1)
              ];
          increasing = h.are.written.increasing;
        };
      };
      count = h.count;
      marks = h.marks;
    }

    module _ (item : SetItem) (more : List SetItem) (after : List Bool) (has : P n) (unmarked_yet : ¬ IsMarked implied n) (closure : IsClosureOf p item n) (pushed : more ≡ items ++ item ∷ []) (row : List ℕ) (is_row : (d : ℕ) → Contains row d ↔ Closure p n d) (marks : Marks (Contains row) implied after) where
      abbrev classes : List ℕ
      classes = h.are.classes ++ n ∷ []

      -- what covers a class implied it before, where that is no later than the newest
      before_newest : (e : ℕ) → e < n + 1 → IsImplied p classes e → IsImplied p h.are.classes e
      before_newest e within c =
          elim (Contains-push_cases h.are.classes n c.before c.among) [
            | inl old ↦ record { before = c.before; among = old; lower = c.lower; closure = c.closure }
            | inr new ↦ let lower = c.lower in absurd (omega arith)
          ]

      each_now : (e : ℕ) → Contains classes e → ((e < n + 1) × P e) × ¬ IsImplied p classes e
      each_now e held =
          elim (Contains-push_cases h.are.classes n e held) [
            | inl old ↦
                let was = h.are.written.each e old in
                let within : e < n + 1 = omega (arith, was.0.0) in
                ((within, was.0.1), λ c. was.1 (before_newest e within c))
            | inr new ↦
                let within : e < n + 1 = omega arith in (
                  (within, subst P new has),
                  λ c. let old = before_newest e within c in unmarked_yet ((h.marks n).1 (old.before, old.among, subst (λ (x : ℕ). Closure p old.before x) (sym new) old.closure)),
                )
          ]

      all_now : (e : ℕ) → (e < n + 1) × P e → Contains classes e ⊎ IsImplied p classes e
      all_now e is =
          elim (cases_eq e n) [
            | inl here ↦ inl (subst (λ (x : ℕ). Contains classes x) (sym here) (Contains-push h.are.classes n))
            | inr other ↦ elim (h.are.written.all e (omega (arith, is.0, other), is.1)) [
              | inl old ↦ inl (Contains-append_left h.are.classes (n ∷ []) e old)
              | inr c ↦ inr (record { before = c.before; among = Contains-append_left h.are.classes (n ∷ []) c.before c.among; lower = c.lower; closure = c.closure })
            ]
          ]

      -- any other is written
      pub items_yes : WrittenSoFar p P (n + 1) more after
      items_yes = record {
        are = record {
          classes = classes;
          closures = subst (λ (l : List SetItem). AllZip (IsClosureOf p) l classes) (sym pushed) (zip_append (IsClosureOf p) items (item ∷ []) h.are.classes (n ∷ []) h.are.closures (closure, tt));
          written = record { each = each_now; all = all_now; increasing = increasing_more h.are.classes n h.are.written.increasing low };
        };
        count = marks.count ∙ h.count;
        marks = λ d. (
          λ marked.
              elim ((marks.marks d).0 marked) [
                | inl old ↦ let w = (h.marks d).0 old in (w.0, Contains-append_left h.are.classes (n ∷ []) w.0 w.1, w.2)
                | inr new ↦ (n, Contains-push h.are.classes n, (is_row d).0 new)
              ],
          λ w. (marks.marks d).1
              (elim (Contains-push_cases h.are.classes n w.0 w.1) [
                | inl old ↦ inl ((h.marks d).1 (w.0, old, w.2))
                | inr new ↦ inr ((is_row d).1 (subst (λ (x : ℕ). Closure p x d) (sym new) w.2))
              ]),
        );
      }

-- ---- lines
module _ (p : Loaded) (rank : ℕ → ℕ) (leads : ℕ → ℕ → Bool) where
  pub lines_none : AreLinesTo p rank leads 0 []
  lines_none = record { count = refl; line = λ n x line at none. absurd (none-some line none) }

  pub lines_more : (n : ℕ) (x : Node) (line : Line) (lines more : List Line) → AreLinesTo p rank leads n lines → IsAt (nodes_of p) x n → IsLineFor p rank leads n x line → more ≡ lines ++ line ∷ [] → AreLinesTo p rank leads (n + 1) more
  lines_more n x line lines more h at for e = record {
    count = ap (λ (l : List Line). length l) e ∙ length-append lines (line ∷ []) ∙ ap (λ (k : ℕ). k + 1) h.count;
    line = λ m y other at_y at_other.
        elim (get_either lines (line ∷ []) m other (subst (λ (l : List Line). slice_get l m ≡ Some other) e at_other)) [
          | inl old ↦ h.line m y other at_y old.1
          | inr new ↦ last m y other at_y new.0 new.1 new.2
        ];
  }
    where
      last : (m : ℕ) (y : Node) (other : Line) → IsAt (nodes_of p) y m → (k : ℕ) → m ≡ length lines + k → slice_get (line ∷ []) k ≡ Some other → IsLineFor p rank leads m y other
      last m y other at_y zero where_is is =
          let count = h.count in
          let number : n ≡ m = omega arith in
          let node : x ≡ y = one_at p x y m (subst (λ (i : ℕ). IsAt (nodes_of p) x i) number at) at_y in
          subst (λ (l : Line). IsLineFor p rank leads m y l) (same_Some line other is)
          (subst (λ (z : Node). IsLineFor p rank leads m z line) node (subst (λ (i : ℕ). IsLineFor p rank leads i x line) number for))
      last m y other at_y (suc k) where_is is = absurd (none-some other is)

  -- .. of a list of nodes
  pub lines_next : (items : List Node) (n : ℕ) (d : Node) (line : Line) (lines more : List Line) → items ≡ nodes_of p → n < length items → AreLinesTo p rank leads n lines → IsLineFor p rank leads n (get_or items n d) line → more ≡ lines ++ line ∷ []
      → AreLinesTo p rank leads (n + 1) more
  lines_next items n d line lines more are inside h for e =
      lines_more n (get_or items n d) line lines more h (subst (λ (ns : List Node). slice_get ns n ≡ Some (get_or items n d)) are (slice_get-get_or items n d inside)) for e
