-- What waits after a ring or the marks have changed.
use Rattle.std.proofs.Common.{◌≡◌, ℕ, zero, suc, ◌+◌, ◌≤◌, Bool, true, false, not, ◌&&◌, List, [], ◌∷◌, ◌++◌, map, Option, None, Some, refl, arith, ap, sym, ◌∙◌, if◌then◌else◌, unwrap_or, eqb, ◌≢◌, ⊎_elim}
use Rattle.std.specs.List.{find, list_all}
use Rattle.std.proofs.lemmas.List.Elements.{filter-append}
use Rattle.std.proofs.lemmas.Bool.{cases_eq, eq-eqb, ne_eqb, and_from, and_parts, le-leb, le-ltb, lt-ltb, leb-true}
use Rattle.std.proofs.lemmas.Option.{same_Some}
use Rattle.std.proofs.lemmas.List.Folds.{list_all-append}
use Rattle.event_loops.specs.declared.item.Posted.{Posted}
use Rattle.event_loops.specs.Queues.{Loop, receiver_of, is_for, is_before, none_for, name_at, items_at, with_items, with_item, without_first, without_first_before, without_object, change}
use Rattle.event_loops.specs.code.Marks.{waits, is_above, is_due, waiting, visible, trimmed, taken_due, Notes, Forgets, is_upto, AreUpto, MarkedUpto}
use Rattle.event_loops.specs.code.Sure.{AllAt}

pub same_cons : {A : Type 0} (xs ys : List A) {x y : A} → x ≡ y → xs ≡ ys → x ∷ xs ≡ y ∷ ys
same_cons {A} xs ys {x} {y} head rest = ap (λ (z : A). z ∷ xs) head ∙ ap (λ zs. y ∷ zs) rest

-- ---- the items of one ring

module _ (since : ℕ → Option ℕ) where
  -- the first that waits and is before the number is the first of those that wait
  pub find-waiting : (number : ℕ) (items : List Posted) → find (is_due since number) items ≡ find (is_before number) (waiting since items)
  find-waiting number [] = refl
  find-waiting number (p ∷ items) = by_test (waits since p) (find-waiting number items)
    where
      by_test : (b : Bool) → find (is_due since number) items ≡ find (is_before number) (waiting since items) → (if b && is_before number p then Some p else find (is_due since number) items) ≡ find (is_before number) (if b then p ∷ waiting since items else waiting since items)
      by_test true rest = ap (λ found. if is_before number p then Some p else found) rest
      by_test false rest = rest

  waiting-without_first : (number : ℕ) (items : List Posted) → waiting since (without_first (is_due since number) items) ≡ without_first (is_before number) (waiting since items)
  waiting-without_first number [] = refl
  waiting-without_first number (p ∷ items) = by_test (waits since p) refl (is_before number p) refl (waiting-without_first number items)
    where
      kept : List Posted
      kept = without_first (is_due since number) items

      by_test : (b : Bool) → waits since p ≡ b → (d : Bool) → is_before number p ≡ d → waiting since kept ≡ without_first (is_before number) (waiting since items)
          → waiting since (if b && d then items else p ∷ kept) ≡ without_first (is_before number) (if b then p ∷ waiting since items else waiting since items)
      by_test true told true before rest = rw before refl
      by_test true told false before rest = rw told (rw before (ap (λ ps. p ∷ ps) rest))
      by_test false told true before rest = rw told rest
      by_test false told false before rest = rw told rest

  waiting-trimmed : (items : List Posted) → waiting since (trimmed since items) ≡ waiting since items
  waiting-trimmed [] = refl
  waiting-trimmed (p ∷ items) = by_test (waits since p) refl (waiting-trimmed items)
    where
      by_test : (b : Bool) → waits since p ≡ b → waiting since (trimmed since items) ≡ waiting since items → waiting since (if b then p ∷ items else trimmed since items) ≡ (if b then p ∷ waiting since items else waiting since items)
      by_test true told rest = rw told refl
      by_test false told rest = rest

  waiting-taken : (number : ℕ) (items : List Posted) → waiting since (taken_due since number items) ≡ without_first (is_before number) (waiting since items)
  waiting-taken number items = waiting-trimmed (without_first (is_due since number) items) ∙ waiting-without_first number items

  waiting-push : (p : Posted) (items : List Posted) → waits since p ≡ true → waiting since (items ++ p ∷ []) ≡ waiting since items ++ p ∷ []
  waiting-push p items told = filter-append (waits since) items (p ∷ []) ∙ ap (λ b. waiting since items ++ (if b then p ∷ [] else [])) told

-- .. after an object's mark was taken off, and after one was made
module _ (old new : ℕ → Option ℕ) where
  -- one item, which an object's mark lets wait or not
  waiting-cons : (f : List Posted → List Posted) (p : Posted) (items : List Posted) → waits new p ≡ waits old p → ((rest : List Posted) → f (p ∷ rest) ≡ p ∷ f rest) → waiting new items ≡ f (waiting old items) → waiting new (p ∷ items) ≡ f (waiting old (p ∷ items))
  waiting-cons f p items same keeps rest = ap (λ b. if b then p ∷ waiting new items else waiting new items) same ∙ by_test (waits old p)
    where
      by_test : (b : Bool) → (if b then p ∷ waiting new items else waiting new items) ≡ f (if b then p ∷ waiting old items else waiting old items)
      by_test true = ap (λ ps. p ∷ ps) rest ∙ sym (keeps (waiting old items))
      by_test false = rest

  waiting-forgotten : (object : ℕ) → Forgets object old new → (items : List Posted) → waiting new items ≡ none_for object (waiting old items)
  waiting-forgotten object f [] = refl
  waiting-forgotten object f (p ∷ items) =
      ⊎_elim
      (λ (e : object ≡ receiver_of p.item). of_it (eq-eqb object (receiver_of p.item) e) (eq-eqb (receiver_of p.item) object (sym e)) (waiting-forgotten object f items))
      (λ (n : object ≢ receiver_of p.item). of_other (ne_eqb object (receiver_of p.item) n) (ne_eqb (receiver_of p.item) object (λ e. n (sym e))) (waiting-forgotten object f items))
      (cases_eq object (receiver_of p.item))
    where
      of_it : eqb object (receiver_of p.item) ≡ true → is_for object p.item ≡ true → waiting new items ≡ none_for object (waiting old items) → waiting new (p ∷ items) ≡ none_for object (waiting old (p ∷ items))
      of_it same is rest =
          let none : new (receiver_of p.item) ≡ None = f (receiver_of p.item) ∙ ap (λ b. if b then None else old (receiver_of p.item)) same in
          ap (λ m. if is_above m p.number then p ∷ waiting new items else waiting new items) none ∙ rest ∙ sym (leaves (waits old p))
        where
          leaves : (b : Bool) → none_for object (if b then p ∷ waiting old items else waiting old items) ≡ none_for object (waiting old items)
          leaves true = ap (λ b. if not b then p ∷ none_for object (waiting old items) else none_for object (waiting old items)) is
          leaves false = refl

      of_other : eqb object (receiver_of p.item) ≡ false → is_for object p.item ≡ false → waiting new items ≡ none_for object (waiting old items) → waiting new (p ∷ items) ≡ none_for object (waiting old (p ∷ items))
      of_other other is rest =
          let still : new (receiver_of p.item) ≡ old (receiver_of p.item) = f (receiver_of p.item) ∙ ap (λ b. if b then None else old (receiver_of p.item)) other in
          waiting-cons (none_for object) p items (ap (λ m. is_above m p.number) still) (λ ps. ap (λ b. if not b then p ∷ none_for object ps else none_for object ps) is) rest

  waiting-noted : (object last : ℕ) → Notes object last old new → (items : List Posted) → list_all (is_upto last) items ≡ true → waiting new items ≡ waiting old items
  waiting-noted object last f [] h = refl
  waiting-noted object last f (p ∷ items) h =
      let parts = and_parts (is_upto last p) (list_all (is_upto last) items) h in
      waiting-cons (λ ps. ps) p items (alike parts.0) (λ ps. refl) (waiting-noted object last f items parts.1)
    where
      receiver : ℕ
      receiver = receiver_of p.item

      -- what has the number of an earlier item doesn't wait by a new mark either
      by_mark : (there : Option ℕ) → p.number ≤ last → is_above (Some (unwrap_or there last)) p.number ≡ is_above there p.number
      by_mark None upto = le-ltb last p.number upto
      by_mark (Some since) upto = refl

      alike : is_upto last p ≡ true → waits new p ≡ waits old p
      alike upto =
          ⊎_elim
          (λ (e : object ≡ receiver).
          let now : new receiver ≡ Some (unwrap_or (old object) last) = f receiver ∙ ap (λ b. if b then Some (unwrap_or (old object) last) else old receiver) (eq-eqb object receiver e) in
          ap (λ m. is_above m p.number) now ∙ by_mark (old object) (leb-true p.number last upto) ∙ ap (λ q. is_above (old q) p.number) e)
          (λ (n : object ≢ receiver).
          ap (λ m. is_above m p.number) (f receiver ∙ ap (λ b. if b then Some (unwrap_or (old object) last) else old receiver) (ne_eqb object receiver n)))
          (cases_eq object receiver)

  -- ---- all loops

  pub visible-forgotten : (object : ℕ) → Forgets object old new → (loops : List Loop) → visible new loops ≡ map (without_object object) (visible old loops)
  visible-forgotten object f [] = refl
  visible-forgotten object f (l ∷ loops) = same_cons _ _ (ap (λ items. record l { items = items }) (waiting-forgotten object f l.items)) (visible-forgotten object f loops)

  pub visible-noted : (object last : ℕ) → Notes object last old new → (loops : List Loop) → AreUpto last loops → visible new loops ≡ visible old loops
  visible-noted object last f [] h = refl
  visible-noted object last f (l ∷ loops) h = same_cons _ _ (ap (λ items. record l { items = items }) (waiting-noted object last f l.items (h zero))) (visible-noted object last f loops (λ home. h (suc home)))

module _ (since : ℕ → Option ℕ) where
  -- a change of one ring is seen as a change of what waits in it
  pub visible-change : (f g : List Posted → List Posted) → ((items : List Posted) → waiting since (f items) ≡ g (waiting since items)) → (home : ℕ) (loops : List Loop) → visible since (change home (with_items f) loops) ≡ change home (with_items g) (visible since loops)
  visible-change f g is home [] = refl
  visible-change f g is zero (l ∷ loops) = ap (λ items. record l { items = items } ∷ visible since loops) (is l.items)
  visible-change f g is (suc home) (l ∷ loops) = ap (λ ls. with_items (waiting since) l ∷ ls) (visible-change f g is home loops)

  pub visible-taken : (number home : ℕ) (loops : List Loop) → visible since (change home (with_items (taken_due since number)) loops) ≡ change home (without_first_before number) (visible since loops)
  visible-taken number home loops = visible-change _ (without_first (is_before number)) (waiting-taken since number) home loops

  pub visible-posted : (p : Posted) → waits since p ≡ true → (home : ℕ) (loops : List Loop) → visible since (change home (with_item p) loops) ≡ change home (with_item p) (visible since loops)
  visible-posted p told home loops = visible-change _ (λ items. items ++ p ∷ []) (λ items. waiting-push since p items told) home loops

  pub visible-trimmed : (home : ℕ) (loops : List Loop) → visible since (change home (with_items (trimmed since)) loops) ≡ visible since loops
  visible-trimmed home [] = refl
  visible-trimmed zero (l ∷ loops) = ap (λ items. record l { items = items } ∷ visible since loops) (waiting-trimmed since l.items)
  visible-trimmed (suc home) (l ∷ loops) = ap (λ ls. with_items (waiting since) l ∷ ls) (visible-trimmed home loops)

  pub visible-with_loop : (name : List ℕ) (loops : List Loop) → visible since (loops ++ record { name = name; items = [] } ∷ []) ≡ visible since loops ++ record { name = name; items = [] } ∷ []
  visible-with_loop name [] = refl
  visible-with_loop name (l ∷ loops) = ap (λ ls. with_items (waiting since) l ∷ ls) (visible-with_loop name loops)

  pub items_at-visible : (loops : List Loop) (home : ℕ) → items_at (visible since loops) home ≡ waiting since (items_at loops home)
  items_at-visible [] home = refl
  items_at-visible (l ∷ loops) zero = refl
  items_at-visible (l ∷ loops) (suc home) = items_at-visible loops home

  pub name_at-visible : (loops : List Loop) (home : ℕ) → name_at (visible since loops) home ≡ name_at loops home
  name_at-visible [] home = refl
  name_at-visible (l ∷ loops) zero = refl
  name_at-visible (l ∷ loops) (suc home) = name_at-visible loops home

-- ---- the numbers of all items, waiting or not, and of the marks

-- what each item in the rings passed, each does still
abbrev AllStay : List Loop → List Loop → Type 0
AllStay old new = (q : Posted → Bool) → AllAt q old → AllAt q new

pub all-change : (f : List Posted → List Posted) → (q : Posted → Bool) → ((items : List Posted) → list_all q items ≡ true → list_all q (f items) ≡ true) → (home : ℕ) (loops : List Loop) → AllAt q loops → AllAt q (change home (with_items f) loops)
all-change f q keeps home [] h k = h k
all-change f q keeps zero (l ∷ loops) h zero = keeps l.items (h zero)
all-change f q keeps zero (l ∷ loops) h (suc k) = h (suc k)
all-change f q keeps (suc home) (l ∷ loops) h zero = h zero
all-change f q keeps (suc home) (l ∷ loops) h (suc k) = all-change f q keeps home loops (λ j. h (suc j)) k

pub all-without_first : (test q : Posted → Bool) (items : List Posted) → list_all q items ≡ true → list_all q (without_first test items) ≡ true
all-without_first test q [] h = h
all-without_first test q (p ∷ items) h =
    let parts = and_parts (q p) (list_all q items) h in by_test (test p) parts.1 (and_from (q p) (list_all q (without_first test items)) parts.0 (all-without_first test q items parts.1))
  where
    by_test : (b : Bool) → list_all q items ≡ true → (q p && list_all q (without_first test items)) ≡ true → list_all q (if b then items else p ∷ without_first test items) ≡ true
    by_test true rest kept = rest
    by_test false rest kept = kept

all-trimmed : (since : ℕ → Option ℕ) (q : Posted → Bool) (items : List Posted) → list_all q items ≡ true → list_all q (trimmed since items) ≡ true
all-trimmed since q [] h = h
all-trimmed since q (p ∷ items) h = by_test (waits since p) (all-trimmed since q items (and_parts (q p) (list_all q items) h).1)
  where
    by_test : (b : Bool) → list_all q (trimmed since items) ≡ true → list_all q (if b then p ∷ items else trimmed since items) ≡ true
    by_test true rest = h
    by_test false rest = rest

pub all-taken : (since : ℕ → Option ℕ) (number home : ℕ) (loops : List Loop) → AllStay loops (change home (with_items (taken_due since number)) loops)
all-taken since number home loops q =
    all-change _ q (λ items h. all-trimmed since q _ (all-without_first (is_due since number) q items h)) home loops

pub all-trimmed_at : (since : ℕ → Option ℕ) (home : ℕ) (loops : List Loop) → AllStay loops (change home (with_items (trimmed since)) loops)
all-trimmed_at since home loops q = all-change _ q (λ items h. all-trimmed since q items h) home loops

upto-more : (last : ℕ) (items : List Posted) → list_all (is_upto last) items ≡ true → list_all (is_upto (last + 1)) items ≡ true
upto-more last [] h = refl
upto-more last (p ∷ items) h =
    let parts = and_parts (is_upto last p) (list_all (is_upto last) items) h in
    let below : p.number ≤ last = leb-true p.number last parts.0 in
    and_from (is_upto (last + 1) p) (list_all (is_upto (last + 1)) items) (le-leb p.number (last + 1) (omega (arith, below))) (upto-more last items parts.1)

-- the item of the next number
pub upto-posted : (last home : ℕ) (p : Posted) (loops : List Loop) → p.number ≡ last + 1 → AreUpto last loops → AreUpto (last + 1) (change home (with_item p) loops)
upto-posted last home p [] is h k = refl
upto-posted last zero p (l ∷ loops) is h zero =
    let new : list_all (is_upto (last + 1)) (p ∷ []) ≡ true = and_from (is_upto (last + 1) p) true (le-leb p.number (last + 1) (omega (arith, is))) refl in
    list_all-append (is_upto (last + 1)) l.items (p ∷ []) ∙ and_from _ _ (upto-more last l.items (h zero)) new
upto-posted last zero p (l ∷ loops) is h (suc k) = upto-more last (items_at loops k) (h (suc k))
upto-posted last (suc home) p (l ∷ loops) is h zero = upto-more last l.items (h zero)
upto-posted last (suc home) p (l ∷ loops) is h (suc k) = upto-posted last home p loops is (λ j. h (suc j)) k

pub all-with_loop : (name : List ℕ) (loops : List Loop) → AllStay loops (loops ++ record { name = name; items = [] } ∷ [])
all-with_loop name [] q h zero = refl
all-with_loop name [] q h (suc k) = refl
all-with_loop name (l ∷ loops) q h zero = h zero
all-with_loop name (l ∷ loops) q h (suc k) = all-with_loop name loops q (λ j. h (suc j)) k

module _ (old new : ℕ → Option ℕ) where
  pub marked-forgotten : (object last : ℕ) → Forgets object old new → MarkedUpto last old → MarkedUpto last new
  marked-forgotten object last f m q n is = by_test (eqb object q) (sym (f q) ∙ is)
    where
      by_test : (b : Bool) → (if b then None else old q) ≡ Some n → n ≤ last
      by_test true none = absurd (cc none)
      by_test false there = m q n there

  pub marked-noted : (object last : ℕ) → Notes object last old new → MarkedUpto last old → MarkedUpto last new
  marked-noted object last f m q n is = by_test (eqb object q) (sym (f q) ∙ is)
    where
      by_mark : (there : Option ℕ) → old object ≡ there → Some (unwrap_or there last) ≡ Some n → n ≤ last
      by_mark None was e = omega (arith, same_Some _ _ e)
      by_mark (Some since) was e = m object n (was ∙ e)

      by_test : (b : Bool) → (if b then Some (unwrap_or (old object) last) else old q) ≡ Some n → n ≤ last
      by_test true there = by_mark (old object) refl there
      by_test false there = m q n there

  -- the next item of an object that has a mark waits
  pub waits-noted : (object last : ℕ) → Notes object last old new → MarkedUpto last old → (p : Posted) → object ≡ receiver_of p.item → p.number ≡ last + 1 → waits new p ≡ true
  waits-noted object last f m p same is = by_mark (new (receiver_of p.item)) refl
    where
      there : new (receiver_of p.item) ≡ Some (unwrap_or (old object) last)
      there = f (receiver_of p.item) ∙ ap (λ b. if b then Some (unwrap_or (old object) last) else old (receiver_of p.item)) (eq-eqb object (receiver_of p.item) same)

      by_mark : (mark : Option ℕ) → new (receiver_of p.item) ≡ mark → is_above mark p.number ≡ true
      by_mark None e = absurd (cc (sym e ∙ there))
      by_mark (Some since) e =
          let below : since ≤ last = marked-noted object last f m (receiver_of p.item) since e in
          lt-ltb since p.number (omega (arith, below, is))

pub marked-more : (since : ℕ → Option ℕ) (last : ℕ) → MarkedUpto last since → MarkedUpto (last + 1) since
marked-more since last m q n is = let below : n ≤ last = m q n is in omega (arith, below)
