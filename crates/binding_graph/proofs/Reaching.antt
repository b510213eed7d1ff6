-- What follows from some properties is found through the readers of each property, turn by turn.
use Rattle.std.{proofs.Common.{◌≡◌, ℕ, suc, ◌+◌, ◌-◌, ◌*◌, ◌^◌, ◌<◌, ◌≤◌, ◌⊎◌, eqb, true, false, List, [], ◌∷◌, ◌++◌, All, length, inl, inr, Option, Some, None, refl, ap, sym, ◌∙◌, subst, arith}, specs.List.{Contains}, specs.List.Sorted.{IsPermutation}, proofs.lemmas.Bool.{eqb-true, false≢true}, proofs.lemmas.Bool.Decides.{nat_tests}, proofs.lemmas.List.{append_assoc}, proofs.lemmas.List.Elements.{All-cons, All-contains, All-contains_itself, All-head, All-nil, All-tail, All-weaker, Contains-append_cases, Contains-append_right}, proofs.lemmas.List.Sorted.{All-permutation, Contains-permutation}, proofs.lemmas.Option.{same_Some}}
use Rattle.binding_graph.{specs.declared.place.Place.{Place}, specs.declared.binding.Binding.{Binding}, specs.Places.{In, Distinct}, specs.Bindings.{binding_at, without_all, Reads, ChainFrom, direct, further}, specs.code.Orders.{Free, IsAffected}, specs.code.Turns.{Turn, number_of, reader_of, Waits, IsReader, AddsReaders, is_turn, IsFrom, IsUpTo, IsDue, IsFollowed}, proofs.Numbers.{IsOneToOne}, proofs.Places.{decide_in, In-cases, In-left, In-right}, proofs.Several.{bound-out, without_all-fewer, without_all-other}, proofs.Walks.{ordered-append}}

-- ---- one turn more or less
first-there : (t : Turn) (ts : List Turn) → Contains (t ∷ ts) t
first-there t ts = (0, omega arith, refl)

later-there : (t : Turn) (ts : List Turn) (s : Turn) → Contains ts s → Contains (t ∷ ts) s
later-there t ts s c = Contains-append_right (t ∷ []) ts s c

first-or-later : (t : Turn) (ts : List Turn) (s : Turn) → Contains (t ∷ ts) s → (t ≡ s) ⊎ Contains ts s
first-or-later t ts s c = elim (Contains-append_cases (t ∷ []) ts s c) [
  | inl one ↦ inl (All-contains (λ (x : Turn). t ≡ x) (t ∷ []) s (All-cons (λ (x : Turn). t ≡ x) t [] refl (All-nil (λ (x : Turn). t ≡ x))) one)
  | inr rest ↦ inr rest
]

-- ---- the readers of a source
module _ (F : Place → Option Binding) (N : Place → Option ℕ) (source : Place) where
  pub adds-none : (old : List Turn) → AddsReaders F N source [] old old
  adds-none old = record {
    kept = λ t c. c;
    only = All-weaker (Contains old) (λ (t : Turn). Contains old t ⊎ IsReader F N source t) (λ t c. inl c) old (All-contains_itself old);
    all = λ q b i f r. absurd i;
  }

  -- a property whose binding doesn't read the source
  pub adds-skip : (readers whole : List Place) (old new : List Turn) (x : Place) → whole ≡ readers ++ x ∷ [] → AddsReaders F N source readers old new → ((b : Binding) → F x ≡ Some b → Reads b source → ⊥) → AddsReaders F N source whole old new
  adds-skip readers whole old new x is g out = subst (λ (xs : List Place). AddsReaders F N source xs old new) (sym is) (record {
    kept = g.kept;
    only = g.only;
    all = λ q b i f r. elim (In-cases q readers (x ∷ []) i) [
      | inl j ↦ g.all q b j f r
      | inr j ↦ elim j [ inl e ↦ absurd (out b (ap F e ∙ f) r) | inr k ↦ absurd k ]
    ];
  })

  -- one whose binding does
  pub adds-put : (readers whole : List Place) (old mid new : List Turn) (x : Place) (t : Turn) (b : Binding) → whole ≡ readers ++ x ∷ [] → x ≡ reader_of t → AddsReaders F N source readers old mid → IsPermutation (t ∷ mid) new → F x ≡ Some b → Reads b source → N x ≡ Some (number_of t) → AddsReaders F N source whole old new
  adds-put readers whole old mid new x t b is here g moved some reads number = subst (λ (xs : List Place). AddsReaders F N source xs old new) (sym is) (record {
    kept = λ s c. stays s (g.kept s c);
    only = All-permutation Known (t ∷ mid) new moved (All-cons Known t mid (inr reader) g.only);
    all = λ q z i f r. elim (In-cases q readers (x ∷ []) i) [
      | inl j ↦ let before = g.all q z j f r in (before.0, stays before.0 before.1, before.2)
      | inr j ↦ elim j [ inl e ↦ (t, Contains-permutation (t ∷ mid) new t moved (first-there t mid), sym here ∙ e) | inr k ↦ absurd k ]
    ];
  })
    where
      Known : Turn → Type 0
      Known s = Contains old s ⊎ IsReader F N source s

      stays : (s : Turn) → Contains mid s → Contains new s
      stays s c = Contains-permutation (t ∷ mid) new s moved (later-there t mid s c)

      reader : IsReader F N source t
      reader = (b, ap F (sym here) ∙ some, reads, ap N (sym here) ∙ number)

-- ---- turns
taken-then : (last : Option ℕ) (n : ℕ) → is_turn n last ≡ true → last ≡ Some n
taken-then None n h = absurd (false≢true h)
taken-then (Some m) n h = ap Some (eqb-true m n h)

up-to : (last : Option ℕ) (n i : ℕ) → is_turn n last ≡ false → IsFrom last n → IsUpTo last i → i < n
up-to None n i out from to = absurd to
up-to (Some m) n i out from to =
    let apart : m ≡ n → ⊥ = λ e. (let same : eqb m n ≡ true = grind (arith, nat_tests) in false≢true (sym out ∙ same)) in
    omega (arith, from, to, apart)

distinct-push : (xs : List Place) (x : Place) → Distinct xs → (In x xs → ⊥) → Distinct (xs ++ x ∷ [])
distinct-push [] x d out = ((λ i. i), tt)
distinct-push (y ∷ ys) x d out = (
  (λ i. elim (In-cases y ys (x ∷ []) i) [ inl j ↦ d.0 j | inr j ↦ elim j [ inl e ↦ out (inl (sym e)) | inr k ↦ k ] ]),
  distinct-push ys x d.1 (λ i. out (inr i)),
)

module _ (bs : List Binding) (N : Place → Option ℕ) (from : List Place) where
  abbrev Whole : Place → Option Binding
  Whole = binding_at bs

  abbrev Rest : Place → Option Binding
  Rest = binding_at (without_all from bs)

  pub followed-none : (turns : List Turn) → turns ≡ [] → IsFollowed Whole Rest N from [] [] None turns
  followed-none turns none = record {
    due = subst (λ (ts : List Turn). All (IsDue Rest N from None) ts) (sym none) (All-nil (IsDue Rest N from None));
    past = λ q i. absurd i;
    taken = λ q i is at. cc is;
    ordered = tt;
    distinct = tt;
    reached = λ q i. absurd i;
    closed = λ q m b f r i. absurd i;
  }

  -- the readers of one more property were found
  pub followed-more : (followed whole found readers : List Place) (last : Option ℕ) (turns after : List Turn) (source : Place) → whole ≡ followed ++ source ∷ [] → IsFollowed Whole Rest N from followed found last turns → AddsReaders Whole N source readers turns after → ((q : Place) (b : Binding) → Whole q ≡ Some b → Reads b source → In q readers) → In source from ⊎ ChainFrom Rest from source → ((t : Turn) → IsReader Whole N source t → IsFrom last (number_of t)) → IsFollowed Whole Rest N from whole found last after
  followed-more followed whole found readers last turns after source is h a complete reach late = subst (λ (ps : List Place). IsFollowed Whole Rest N from ps found last after) (sym is) (record {
    due = All-weaker (λ (t : Turn). Contains turns t ⊎ IsReader Whole N source t) (IsDue Rest N from last)
        (λ t known. elim known [
          | inl c ↦ All-contains (IsDue Rest N from last) turns t h.due c
          | inr new ↦ (new.3, follows (reader_of t) new.0 new.1 new.2, late t new)
        ])
        after a.only;
    past = h.past;
    taken = h.taken;
    ordered = h.ordered;
    distinct = h.distinct;
    reached = h.reached;
    closed = λ q m b some r i. elim (In-cases m followed (source ∷ []) i) [
      | inl j ↦ elim (h.closed q m b some r j) [
        | inl k ↦ inl k
        | inr k ↦ elim k [ inl k2 ↦ inr (inl k2) | inr w ↦ inr (inr (w.0, a.kept w.0 w.1, w.2)) ]
      ]
      | inr j ↦ elim j [
        | inl e ↦ let reads : Reads b source = subst (Reads b) (sym e) r in inr (inr (a.all q b (complete q b some reads) some reads))
        | inr k ↦ absurd k
      ]
    ];
  })
    where
      follows : (q : Place) (b : Binding) → Whole q ≡ Some b → Reads b source → In q from ⊎ ChainFrom Rest from q
      follows q b some r = elim (decide_in q from) [
        | inl i ↦ inl i
        | inr out ↦ let here : Rest q ≡ Some b = without_all-other from bs q out ∙ some in elim reach [
          | inl i ↦ inr (source, i, direct b here r)
          | inr chain ↦ inr (chain.0, chain.1, further b chain.2 here r)
        ]
      ]

  -- the next turn
  module _ (followed found : List Place) (last : Option ℕ) (turns after : List Turn) (t : Turn) (h : IsFollowed Whole Rest N from followed found last turns) (moved : IsPermutation turns (t ∷ after)) where
    all-due : All (IsDue Rest N from last) (t ∷ after)
    all-due = All-permutation (IsDue Rest N from last) turns (t ∷ after) moved h.due

    pub turn-due : IsDue Rest N from last t
    turn-due = All-head (IsDue Rest N from last) t after all-due

    still-due : All (IsDue Rest N from last) after
    still-due = All-tail (IsDue Rest N from last) t after all-due

    -- whoever waited is the one whose turn it is, or waits still
    waits-still : (q : Place) → Waits turns q → (reader_of t ≡ q) ⊎ Waits after q
    waits-still q w = elim (first-or-later t after w.0 (Contains-permutation turns (t ∷ after) w.0 moved w.1)) [
      | inl e ↦ inl (ap reader_of e ∙ w.2)
      | inr c ↦ inr (w.0, c, w.2)
    ]

    -- the property is one that was found, or one from which is followed
    turn-passed : In (reader_of t) from ⊎ In (reader_of t) found → IsFollowed Whole Rest N from followed found last after
    turn-passed there = record {
      due = still-due;
      past = h.past;
      taken = h.taken;
      ordered = h.ordered;
      distinct = h.distinct;
      reached = h.reached;
      closed = λ q m b some r i. elim (h.closed q m b some r i) [
        | inl j ↦ inl j
        | inr j ↦ elim j [
          | inl k ↦ inr (inl k)
          | inr w ↦ elim (waits-still q w) [
            | inl e ↦ elim there [ inl k ↦ inl (subst (λ (p : Place). In p from) e k) | inr k ↦ inr (inl (subst (λ (p : Place). In p found) e k)) ]
            | inr k ↦ inr (inr k)
          ]
        ]
      ];
    }

    pub turn-given : (place : Place) → place ≡ reader_of t → In place from → IsFollowed Whole Rest N from followed found last after
    turn-given place here i = turn-passed (inl (subst (λ (q : Place). In q from) here i))

    pub turn-again : is_turn (number_of t) last ≡ true → IsFollowed Whole Rest N from followed found last after
    turn-again again = turn-passed (inr (h.taken (reader_of t) (number_of t) (taken-then last (number_of t) again) turn-due.0))

    -- the turn of one that follows
    module _ (one : IsOneToOne N) (rises : (q m : Place) (b : Binding) (i j : ℕ) → Whole q ≡ Some b → Reads b m → N m ≡ Some i → N q ≡ Some j → i < j) (lowest : All (λ (s : Turn). number_of t ≤ number_of s) after) (new : is_turn (number_of t) last ≡ false) (out : In (reader_of t) from → ⊥) where
      earlier : (q : Place) → In q found → (i : ℕ) × (N q ≡ Some i) × (i < number_of t)
      earlier q i = let was = h.past q i in (was.0, was.1, up-to last (number_of t) was.0 new turn-due.2 was.2)

      reads-none : (q : Place) (i : ℕ) → N q ≡ Some i → i ≤ number_of t → Free Rest q (reader_of t ∷ [])
      reads-none q i at low b some p j r = elim j [
        | inl e ↦
            let over : number_of t < i = rises q (reader_of t) b (number_of t) i (without_all-fewer from bs q b some) (subst (Reads b) (sym e) r) turn-due.0 at in
            absurd (omega (arith, over, low))
        | inr k ↦ absurd k
      ]

      turn-taken : IsFollowed Whole Rest N from followed (found ++ reader_of t ∷ []) (Some (number_of t)) after
      turn-taken = record {
        due = All-weaker (Contains after) (IsDue Rest N from (Some (number_of t)))
            (λ s c.
            let was = All-contains (IsDue Rest N from last) after s still-due c in
            (was.0, was.1, All-contains (λ (s : Turn). number_of t ≤ number_of s) after s lowest c))
            after (All-contains_itself after);
        past = λ q i. elim (In-cases q found (reader_of t ∷ []) i) [
          | inl j ↦ let was = earlier q j in let less : was.0 < number_of t = was.2 in let most : was.0 ≤ number_of t = omega (arith, less) in (was.0, was.1, most)
          | inr j ↦ elim j [
            | inl e ↦ let most : number_of t ≤ number_of t = omega arith in (number_of t, subst (λ (p : Place). N p ≡ Some (number_of t)) e turn-due.0, most)
            | inr k ↦ absurd k
          ]
        ];
        taken = λ q i is at. In-right q found (reader_of t ∷ []) (inl (one (reader_of t) q i (turn-due.0 ∙ is) at));
        ordered = ordered-append Rest found (reader_of t ∷ []) h.ordered
            (reads-none (reader_of t) (number_of t) turn-due.0 (omega arith), tt)
            (λ q i. (let was = earlier q i in let less : was.0 < number_of t = was.2 in let most : was.0 ≤ number_of t = omega (arith, less) in reads-none q was.0 was.1 most));
        distinct = distinct-push found (reader_of t) h.distinct (λ i.
            let was = earlier (reader_of t) i in
            let less : was.0 < number_of t = was.2 in
            let same : was.0 ≡ number_of t = same_Some was.0 (number_of t) (sym was.1 ∙ turn-due.0) in
            absurd (omega (arith, less, same)));
        reached = λ q i. elim (In-cases q found (reader_of t ∷ []) i) [
          | inl j ↦ h.reached q j
          | inr j ↦ elim j [
            | inl e ↦ elim turn-due.1 [ inl k ↦ absurd (out k) | inr chain ↦ subst (ChainFrom Rest from) e chain ]
            | inr k ↦ absurd k
          ]
        ];
        closed = λ q m b some r i. elim (h.closed q m b some r i) [
          | inl j ↦ inl j
          | inr j ↦ elim j [
            | inl k ↦ inr (inl (In-left q found (reader_of t ∷ []) k))
            | inr w ↦ elim (waits-still q w) [
              | inl e ↦ inr (inl (In-right q found (reader_of t ∷ []) (inl e)))
              | inr k ↦ inr (inr k)
            ]
          ]
        ];
      }

    -- .. whose readers were found then
    pub turn-followed : (place : Place) (after-it readers : List Place) (final : List Turn) → place ≡ reader_of t → IsOneToOne N → ((q m : Place) (b : Binding) (i j : ℕ) → Whole q ≡ Some b → Reads b m → N m ≡ Some i → N q ≡ Some j → i < j) → All (λ (s : Turn). number_of t ≤ number_of s) after → is_turn (number_of t) last ≡ false → (In place from → ⊥) → followed ≡ from ++ found → after-it ≡ found ++ place ∷ [] → AddsReaders Whole N place readers after final → ((q : Place) (b : Binding) → Whole q ≡ Some b → Reads b place → In q readers) → IsFollowed Whole Rest N from (from ++ after-it) after-it (Some (number_of t)) final
    turn-followed place after-it readers final here one rises lowest new out before gets a complete =
        let away : In (reader_of t) from → ⊥ = subst (λ (q : Place). In q from → ⊥) here out in
        let got : after-it ≡ found ++ reader_of t ∷ [] = gets ∙ ap (λ (q : Place). found ++ q ∷ []) here in
        let adds : AddsReaders Whole N (reader_of t) readers after final = subst (λ (q : Place). AddsReaders Whole N q readers after final) here a in
        let whole : from ++ (found ++ reader_of t ∷ []) ≡ followed ++ reader_of t ∷ [] = sym (append_assoc from found (reader_of t ∷ [])) ∙ ap (λ (ps : List Place). ps ++ reader_of t ∷ []) (sym before) in
        let reach : In (reader_of t) from ⊎ ChainFrom Rest from (reader_of t) = turn-due.1 in
        let more = followed-more followed (from ++ (found ++ reader_of t ∷ [])) (found ++ reader_of t ∷ []) readers (Some (number_of t)) after final (reader_of t) whole (turn-taken one rises lowest new away) adds
        (subst (λ (p : Place). (q : Place) (b : Binding) → Whole q ≡ Some b → Reads b p → In q readers) here complete)
        reach
        (λ s reader.
        let less : number_of t < number_of s = rises (reader_of s) (reader_of t) reader.0 (number_of t) (number_of s) reader.1 reader.2 turn-due.0 reader.3 in
        late s less) in
        subst (λ (fs : List Place). IsFollowed Whole Rest N from (from ++ fs) fs (Some (number_of t)) final) (sym got) more
      where
        late : (s : Turn) → number_of t < number_of s → number_of t ≤ number_of s
        late s less = omega (arith, less)

  -- none waits any more
  pub followed-all : (found : List Place) (last : Option ℕ) (turns : List Turn) → IsFollowed Whole Rest N from (from ++ found) found last turns → length turns ≡ 0 → IsAffected Rest from found
  followed-all found last turns h none = record {
    ordered = h.ordered;
    distinct = h.distinct;
    reached = h.reached;
    closed = λ q m b some r i.
        let followed : In m (from ++ found) = elim i [ inl j ↦ In-left m from found j | inr j ↦ In-right m from found j ] in
        elim (h.closed q m b (without_all-fewer from bs q b some) r followed) [
          | inl j ↦ absurd (bound-out from bs q b some j)
          | inr j ↦ elim j [
            | inl k ↦ k
            | inr w ↦ let below : w.1.0 < length turns = w.1.1 in absurd (omega (arith, below, none))
          ]
        ];
  }

-- ---- the end
-- the first number above that of the turn that was taken last
abbrev pub bound_of : Option ℕ → ℕ
bound_of None = 0
bound_of (Some n) = suc n

-- less with each turn: fewer numbers are left, or as many and fewer turns wait, of which there are less than 2 ^ 65
abbrev pub turns_left : ℕ → Option ℕ → ℕ → ℕ
turns_left next last waiting = (next - bound_of last) * 2 ^ 65 + waiting

pub turns-fewer : (next : ℕ) (last : Option ℕ) (n j k : ℕ) → is_turn n last ≡ false → IsFrom last n → n < next → k < 2 ^ 65 → turns_left next (Some n) k < turns_left next last j
turns-fewer next last n j k new from below few =
    let over : bound_of last ≤ n = by-last last new from in
    omega (arith, over, below, few)
  where
    by-last : (last : Option ℕ) → is_turn n last ≡ false → IsFrom last n → bound_of last ≤ n
    by-last None new from = omega arith
    by-last (Some m) new from =
        let apart : m ≡ n → ⊥ = λ e. (let same : eqb m n ≡ true = grind (arith, nat_tests) in false≢true (sym new ∙ same)) in
        let least : m ≤ n = from in
        omega (arith, least, apart)

pub turns-less : (next : ℕ) (last : Option ℕ) (j k : ℕ) → k < j → turns_left next last k < turns_left next last j
turns-less next last j k less = omega (arith, less)
