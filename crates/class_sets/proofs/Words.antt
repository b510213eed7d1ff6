-- Sets of classes in words, bit by bit.
use Rattle.std.proofs.Common.{◌≡◌, ◌≢◌, ◌↔◌, ◌⊎◌, inl, inr, ℕ, ◌+◌, ◌*◌, ◌-◌, ◌/◌, ◌%◌, ◌^◌, ◌<◌, ◌≤◌, w64, max, Bool, true, false, eqb, bit_and, bit_or, IsTrue, List, [], ◌++◌, length, get_or, set, take, replicate, refl, sym, ap, ◌∙◌, subst, arith, get_or-set_same, get_or-set_other}
use Rattle.std.specs.Int.{bit_at}
use Rattle.std.proofs.lemmas.Bool.{cases_eq, cases_lt, eqb-true}
use Rattle.std.proofs.lemmas.List.{get_or_past, get_or-replicate, length-replicate, length-set, take_all}
use Rattle.std.proofs.lemmas.List.FromFn.{length-map-range_with_len, get_or-map-range_with_len, fill_by_all}
use Rattle.std.proofs.lemmas.Nat.Bits.{bit_at-zero, bit_at-lt, bit_at_or, shr_and_one, bit_at_set_same, bit_at_set_other}
use Rattle.class_sets.specs.declared.class_set.TheConstants.{BITS}
use Rattle.class_sets.specs.Marks.{IsMarked, Marks, IsWithin}
use Rattle.class_sets.specs.Words.{has, marks_of, JoinsTo}

off_is_not : (b : Bool) → b ≡ false → b ≡ true → ⊥
off_is_not b off on = let bad : false ≡ true = sym off ∙ on in cc

-- ---- the marks of words
pub marks_length : (ws : List ℕ) (room : ℕ) → length (marks_of ws room) ≡ room
unfolding marks_of
marks_length ws room = length-map-range_with_len (has ws) 0 room

mark_is : (ws : List ℕ) (room d : ℕ) → d < room → get_or (marks_of ws room) d false ≡ has ws d
unfolding marks_of
mark_is ws room d low = get_or-map-range_with_len (has ws) 0 room d d false low (omega arith)

pub marked_has : (ws : List ℕ) (room d : ℕ) → IsMarked (marks_of ws room) d → (d < room) × (has ws d ≡ true)
marked_has ws room d h =
    elim (cases_lt d room) [
      | inl l ↦ (l, sym (mark_is ws room d l) ∙ h)
      | inr m ↦ absurd (off_is_not _ (get_or_past (marks_of ws room) d false (omega (arith, m, marks_length ws room))) h)
    ]

pub has_marked : (ws : List ℕ) (room d : ℕ) → d < room → has ws d ≡ true → IsMarked (marks_of ws room) d
has_marked ws room d low h = mark_is ws room d low ∙ h

-- ---- no class
no_bit : (ws : List ℕ) (d : ℕ) → get_or ws (d / BITS) 0 ≡ 0 → has ws d ≡ false
unfolding has
no_bit ws d e = ap (λ (w : ℕ). eqb (bit_at w (d % BITS)) 1) e ∙ ap (λ (b : ℕ). eqb b 1) (bit_at-zero (d % BITS))

zero_at : (n k none : ℕ) → get_or (replicate n none) k none ≡ none
zero_at n k none =
    elim (cases_lt k n) [
      | inl l ↦ get_or-replicate n k none none l
      | inr m ↦ get_or_past (replicate n none) k none (omega (arith, m, length-replicate {A = ℕ} n none))
    ]

pub none_marked : (n room : ℕ) (ws : List ℕ) → ws ≡ replicate n 0 → marks_of ws room ≡ replicate room false
unfolding marks_of
none_marked n room ws e =
    sym (fill_by_all (has ws) (replicate room false) room false (length-replicate {A = Bool} room false)
    (λ k low. get_or-replicate room k false false low ∙ sym (no_bit ws k (ap (λ (l : List ℕ). get_or l (k / BITS) 0) e ∙ zero_at n (k / BITS) 0))))

-- .. in words that were filled up from none
pub zeros : (n k : ℕ) (before ws : List ℕ) → before ≡ [] → k ≡ 0 → ws ≡ take n before ++ replicate (n - k) 0 → ws ≡ replicate n 0
zeros n k before ws none no_length e =
    e ∙ ap (λ (l : List ℕ). take n l ++ replicate (n - k) 0) none ∙ ap (λ (l : List ℕ). l ++ replicate (n - k) 0) (take_all n [] (omega arith))
    ∙ ap (λ (m : ℕ). replicate m 0) (omega (arith, no_length))

-- ---- one class more
module _ (ws vs : List ℕ) (c : ℕ) (inside : c / BITS < length ws) (e : vs ≡ set ws (c / BITS) (bit_or (get_or ws (c / BITS) 0) (1 * 2 ^ (c % BITS) % 2 ^ 64))) where
  abbrev word : ℕ
  word = get_or ws (c / BITS) 0

  low_bit : c % BITS < 64
  low_bit = omega arith

  word_now : get_or vs (c / BITS) 0 ≡ bit_or word (1 * 2 ^ (c % BITS) % 2 ^ 64)
  word_now = ap (λ (l : List ℕ). get_or l (c / BITS) 0) e ∙ get_or-set_same ws (c / BITS) _ 0 inside

  now_has : has vs c ≡ true
  unfolding has
  now_has = ap (λ (x : ℕ). eqb (bit_at x (c % BITS)) 1) word_now ∙ ap (λ (b : ℕ). eqb b 1) (bit_at_set_same w64 word (c % BITS) low_bit)

  as_before : (d : ℕ) → d ≢ c → has vs d ≡ has ws d
  unfolding has
  as_before d other =
      elim (cases_eq (d / BITS) (c / BITS)) [
        | inl same ↦
            let apart : d % BITS ≢ c % BITS = λ bit. other (omega (arith, same, bit)) in
            ap (λ (k : ℕ). eqb (bit_at (get_or vs k 0) (d % BITS)) 1) same ∙ ap (λ (x : ℕ). eqb (bit_at x (d % BITS)) 1) word_now
            ∙ ap (λ (b : ℕ). eqb b 1) (bit_at_set_other w64 word (c % BITS) low_bit (d % BITS) apart)
            ∙ ap (λ (k : ℕ). eqb (bit_at (get_or ws k 0) (d % BITS)) 1) (sym same)
        | inr apart ↦
            ap (λ (l : List ℕ). eqb (bit_at (get_or l (d / BITS) 0) (d % BITS)) 1) e
            ∙ ap (λ (x : ℕ). eqb (bit_at x (d % BITS)) 1) (get_or-set_other ws (c / BITS) (d / BITS) _ 0 apart)
      ]

  pub class_marked : (room : ℕ) → c < room → Marks (λ d. d ≡ c) (marks_of ws room) (marks_of vs room)
  class_marked room low = record {
    count = marks_length vs room ∙ sym (marks_length ws room);
    marks = λ d.
        elim (cases_eq d c) [
          | inl same ↦
              (λ h. inr same, λ h. subst (λ (x : ℕ). IsMarked (marks_of vs room) x) (sym same) (has_marked vs room c low now_has))
          | inr other ↦ (
            λ h. let m = marked_has vs room d h in inl (has_marked ws room d m.0 (sym (as_before d other) ∙ m.1)),
            λ h. elim h [
              | inl old ↦ let m = marked_has ws room d old in has_marked vs room d m.0 (as_before d other ∙ m.1)
              | inr same ↦ absurd (other same)
            ],
          )
        ];
  }

-- ---- the bits of each word among those of another
one_of_both : (a b : ℕ) → b < 2 → max a b ≡ b → a ≡ 1 → b ≡ 1
one_of_both a b low e one = omega (arith, low, e, one)

-- where each word's bits are among those of the other
module _ (ws vs : List ℕ) (each : (k : ℕ) → k < length ws → bit_or (get_or ws k 0) (get_or vs k 0) ≡ get_or vs k 0) where
  in_other : (d : ℕ) → has ws d ≡ true → has vs d ≡ true
  unfolding has
  in_other d on =
      elim (cases_lt (d / BITS) (length ws)) [
        | inl l ↦
            let both = sym (bit_at_or (get_or ws (d / BITS) 0) (get_or vs (d / BITS) 0) (d % BITS)) ∙ ap (λ (w : ℕ). bit_at w (d % BITS)) (each (d / BITS) l) in
            ap (λ (b : ℕ). eqb b 1) (one_of_both _ _ (bit_at-lt (get_or vs (d / BITS) 0) (d % BITS)) both (eqb-true _ 1 on))
        | inr p ↦ absurd (off_is_not _ (ap (λ (w : ℕ). eqb (bit_at w (d % BITS)) 1) (get_or_past ws (d / BITS) 0 p) ∙ ap (λ (b : ℕ). eqb b 1) (bit_at-zero (d % BITS))) on)
      ]

  pub within_bits : (room more : ℕ) → room ≤ more → IsWithin (marks_of ws room) (marks_of vs more)
  within_bits room more wide d h =
      let m = marked_has ws room d h in
      has_marked vs more d (omega (arith, wide, m.0)) (in_other d m.1)

-- ---- what code reads and writes
pub bit_marked : (ws : List ℕ) (room d : ℕ) → d < room → IsTrue (eqb (bit_and (get_or ws (d / BITS) 0 / 2 ^ (d % BITS)) 1) 1) ↔ IsMarked (marks_of ws room) d
unfolding has
bit_marked ws room d low =
    let bit : eqb (bit_and (get_or ws (d / BITS) 0 / 2 ^ (d % BITS)) 1) 1 ≡ has ws d = ap (λ (x : ℕ). eqb x 1) (shr_and_one (get_or ws (d / BITS) 0) (d % BITS)) in
    (λ on. has_marked ws room d low (sym bit ∙ on), λ h. bit ∙ (marked_has ws room d h).1)

pub word_inside : (ws : List ℕ) (room d : ℕ) (marks : List Bool) → marks_of ws room ≡ marks → room ≤ length ws * BITS → d < length marks → (d < room) × (d / BITS < length ws)
word_inside ws room d marks e fits low =
    let count : length marks ≡ room = sym (ap (λ (l : List Bool). length l) e) ∙ marks_length ws room in
    let inside : d < room = omega (arith, low, count) in
    (inside, omega (arith, inside, fits))

-- ---- one word after another
pub join_none : (more ws : List ℕ) → JoinsTo 0 more ws ws
join_none more ws = record { count = refl; joined = λ k low. absurd (omega (arith, low)); kept = λ k past. refl }

pub join_more : (end : ℕ) (more first then last : List ℕ) (a b : ℕ) → end < length first → JoinsTo end more first then → a ≡ get_or then end 0 → b ≡ get_or more end 0 → last ≡ set then end (bit_or a b) → JoinsTo (end + 1) more first last
join_more end more first then last a b inside j left right e =
    let x : ℕ = bit_or a b in
    let is : x ≡ bit_or (get_or then end 0) (get_or more end 0) = ap (λ (w : ℕ). bit_or w b) left ∙ ap (λ (w : ℕ). bit_or (get_or then end 0) w) right in
    let given : JoinsTo (end + 1) more first (set then end x) = record {
      count = length-set then end x ∙ j.count;
      joined = λ k low.
          elim (cases_eq k end) [
            | inl same ↦
                subst (λ (i : ℕ). get_or (set then end x) i 0 ≡ bit_or (get_or first i 0) (get_or more i 0)) (sym same)
                (get_or-set_same then end x 0 (omega (arith, inside, j.count)) ∙ is ∙ ap (λ (w : ℕ). bit_or w (get_or more end 0)) (j.kept end (omega arith)))
            | inr other ↦ get_or-set_other then end k x 0 other ∙ j.joined k (omega (arith, low))
          ];
      kept = λ k past. get_or-set_other then end k x 0 (λ same. absurd (omega (arith, past, same))) ∙ j.kept k (omega (arith, past));
    } in
    subst (JoinsTo (end + 1) more first) (sym e) given

-- ---- the classes of both sets
either : (a b : ℕ) → a < 2 → b < 2 → max a b ≡ 1 → (a ≡ 1) ⊎ (b ≡ 1)
either a b low high e = elim (cases_eq a 1) [ inl one ↦ inl one | inr other ↦ inr (omega (arith, low, high, e)) ]

one_left : (a b : ℕ) → b < 2 → a ≡ 1 → max a b ≡ 1
one_left a b low e = omega (arith, low, e)

one_right : (a b : ℕ) → a < 2 → b ≡ 1 → max a b ≡ 1
one_right a b low e = omega (arith, low, e)

module _ (ws os vs : List ℕ) (room : ℕ) (fits : room ≤ length ws * BITS) (j : JoinsTo (length ws) os ws vs) where
  bits_now : (d : ℕ) → d < room → bit_at (get_or vs (d / BITS) 0) (d % BITS) ≡ max (bit_at (get_or ws (d / BITS) 0) (d % BITS)) (bit_at (get_or os (d / BITS) 0) (d % BITS))
  bits_now d low =
      let inside : d / BITS < length ws = omega (arith, low, fits) in
      ap (λ (w : ℕ). bit_at w (d % BITS)) (j.joined (d / BITS) inside) ∙ bit_at_or (get_or ws (d / BITS) 0) (get_or os (d / BITS) 0) (d % BITS)

  has_either : (d : ℕ) → d < room → has vs d ≡ true → (has ws d ≡ true) ⊎ (has os d ≡ true)
  unfolding has
  has_either d low on =
      let one = sym (bits_now d low) ∙ eqb-true _ 1 on in
      elim (either _ _ (bit_at-lt (get_or ws (d / BITS) 0) (d % BITS)) (bit_at-lt (get_or os (d / BITS) 0) (d % BITS)) one) [
        | inl a ↦ inl (ap (λ (b : ℕ). eqb b 1) a)
        | inr b ↦ inr (ap (λ (b : ℕ). eqb b 1) b)
      ]

  has_left : (d : ℕ) → d < room → has ws d ≡ true → has vs d ≡ true
  unfolding has
  has_left d low on =
      ap (λ (b : ℕ). eqb b 1) (bits_now d low ∙ one_left _ _ (bit_at-lt (get_or os (d / BITS) 0) (d % BITS)) (eqb-true _ 1 on))

  has_right : (d : ℕ) → d < room → has os d ≡ true → has vs d ≡ true
  unfolding has
  has_right d low on =
      ap (λ (b : ℕ). eqb b 1) (bits_now d low ∙ one_right _ _ (bit_at-lt (get_or ws (d / BITS) 0) (d % BITS)) (eqb-true _ 1 on))

  joined_marks : Marks (IsMarked (marks_of os room)) (marks_of ws room) (marks_of vs room)
  joined_marks = record {
    count = marks_length vs room ∙ sym (marks_length ws room);
    marks = λ d. (
      λ h.
          let m = marked_has vs room d h in
          elim (has_either d m.0 m.1) [ inl a ↦ inl (has_marked ws room d m.0 a) | inr b ↦ inr (has_marked os room d m.0 b) ],
      λ h.
          elim h [
            | inl old ↦ let m = marked_has ws room d old in has_marked vs room d m.0 (has_left d m.0 m.1)
            | inr new ↦ let m = marked_has os room d new in has_marked vs room d m.0 (has_right d m.0 m.1)
          ],
    );
  }

-- .. of two sets with room for as many
pub set_joined : (ws os vs : List ℕ) (room more : ℕ) (before other : List Bool) → marks_of ws room ≡ before → marks_of os more ≡ other → room ≤ length ws * BITS → length other ≡ length before
    → JoinsTo (length ws) os ws vs → Marks (IsMarked other) before (marks_of vs room)
set_joined ws os vs room more before other e f fits same j =
    let count : more ≡ room = sym (marks_length os more) ∙ ap (λ (l : List Bool). length l) f ∙ same ∙ sym (ap (λ (l : List Bool). length l) e) ∙ marks_length ws room in
    let is : marks_of os room ≡ other = ap (marks_of os) (sym count) ∙ f in
    subst (λ (m : List Bool). Marks (IsMarked other) m (marks_of vs room)) e
    (subst (λ (m : List Bool). Marks (IsMarked m) (marks_of ws room) (marks_of vs room)) is (joined_marks ws os vs room fits j))

pub room_is : (ws : List ℕ) (room : ℕ) (marks : List Bool) → marks_of ws room ≡ marks → room ≡ length marks
room_is ws room marks e = sym (marks_length ws room) ∙ ap (λ (l : List Bool). length l) e
