-- Which items wait is told by their numbers, where these are high enough.
use Rattle.std.proofs.Common.{◌≡◌, ℕ, zero, suc, ◌<◌, Bool, true, false, ◌||◌, List, [], ◌∷◌, ◌++◌, length, Option, None, Some, refl, arith, ap, sym, ◌∙◌, if◌then◌else◌, unwrap_or, get_or, ◌≢◌, ⊎_elim}
use Rattle.std.specs.List.{list_all}
use Rattle.std.proofs.lemmas.Bool.{and_from, and_parts, cases_eq, eq-eqb, ne_eqb, false≢true}
use Rattle.std.proofs.lemmas.List.Folds.{list_all-append}
use Rattle.event_loops.specs.declared.item.Posted.{Posted}
use Rattle.event_loops.specs.Queues.{Loop, receiver_of, items_at, with_item, change}
use Rattle.event_loops.specs.code.Marks.{waits, is_above, Notes, Forgets, is_upto}
use Rattle.event_loops.specs.code.Sure.{AllAt, is_sure}
use Rattle.event_loops.proofs.Waiting.{all-change}

all-more : (q r : Posted → Bool) → ((p : Posted) → q p ≡ true → r p ≡ true) → (items : List Posted) → list_all q items ≡ true → list_all r items ≡ true
all-more q r more [] h = refl
all-more q r more (p ∷ items) h =
    let parts = and_parts (q p) (list_all q items) h in and_from (r p) (list_all r items) (more p parts.0) (all-more q r more items parts.1)

-- what passes one test passes the other
pub all_at-more : (q r : Posted → Bool) → ((p : Posted) → q p ≡ true → r p ≡ true) → (loops : List Loop) → AllAt q loops → AllAt r loops
all_at-more q r more loops h home = all-more q r more (items_at loops home) (h home)

pub all-get_or : (q : Posted → Bool) (items : List Posted) (i : ℕ) (d : Posted) → list_all q items ≡ true → i < length items → q (get_or items i d) ≡ true
all-get_or q [] i d h within = absurd (omega (arith, within))
all-get_or q (p ∷ items) zero d h within = (and_parts (q p) (list_all q items) h).0
all-get_or q (p ∷ items) (suc i) d h within = all-get_or q items i d (and_parts (q p) (list_all q items) h).1 (omega (arith, within))

pub sure-waits : (last : ℕ) (since : ℕ → Option ℕ) (p : Posted) → waits since p ≡ true → is_sure last since p ≡ true
sure-waits last since p h = by_test (is_upto last p)
  where
    by_test : (b : Bool) → (b || waits since p) ≡ true
    by_test true = refl
    by_test false = h

pub sure-upto : (last : ℕ) (since : ℕ → Option ℕ) (p : Posted) → is_upto last p ≡ true → is_sure last since p ≡ true
sure-upto last since p h = ap (λ b. b || waits since p) h

-- an item at the end that waits
pub all-posted : (q : Posted → Bool) (p : Posted) → q p ≡ true → (home : ℕ) (loops : List Loop) → AllAt q loops → AllAt q (change home (with_item p) loops)
all-posted q p told home loops =
    all-change (λ items. items ++ p ∷ []) q (λ items h. list_all-append q items (p ∷ []) ∙ and_from _ _ h (and_from (q p) true told refl)) home loops

module _ (old new : ℕ → Option ℕ) where
  -- what waits does so after a mark was made
  pub waits-after : (object last : ℕ) → Notes object last old new → (p : Posted) → waits old p ≡ true → waits new p ≡ true
  waits-after object last f p h =
      ⊎_elim
      (λ (e : object ≡ receiver).
      ap (λ m. is_above m p.number) (f receiver ∙ ap (λ b. if b then Some (unwrap_or (old object) last) else old receiver) (eq-eqb object receiver e))
      ∙ by_mark (old object) (ap (λ q. is_above (old q) p.number) e ∙ h))
      (λ (n : object ≢ receiver).
      ap (λ m. is_above m p.number) (f receiver ∙ ap (λ b. if b then Some (unwrap_or (old object) last) else old receiver) (ne_eqb object receiver n)) ∙ h)
      (cases_eq object receiver)
    where
      receiver : ℕ
      receiver = receiver_of p.item

      by_mark : (there : Option ℕ) → is_above there p.number ≡ true → is_above (Some (unwrap_or there last)) p.number ≡ true
      by_mark None above = absurd (false≢true above)
      by_mark (Some since) above = above

  pub sure-after : (bound object last : ℕ) → Notes object last old new → (p : Posted) → is_sure bound old p ≡ true → is_sure bound new p ≡ true
  sure-after bound object last f p h = by_test (is_upto bound p) h
    where
      by_test : (b : Bool) → (b || waits old p) ≡ true → (b || waits new p) ≡ true
      by_test true t = refl
      by_test false t = waits-after object last f p t

  -- an object without a mark is forgotten
  pub forgets-none : (object : ℕ) → Forgets object old new → old object ≡ None → (q : ℕ) → new q ≡ old q
  forgets-none object f none q =
      ⊎_elim
      (λ (e : object ≡ q). f q ∙ ap (λ b. if b then None else old q) (eq-eqb object q e) ∙ sym (ap old (sym e) ∙ none))
      (λ (n : object ≢ q). f q ∙ ap (λ b. if b then None else old q) (ne_eqb object q n))
      (cases_eq object q)

  pub sure-alike : ((q : ℕ) → new q ≡ old q) → (bound : ℕ) (p : Posted) → is_sure bound old p ≡ true → is_sure bound new p ≡ true
  sure-alike alike bound p h = ap (λ m. is_upto bound p || is_above m p.number) (alike (receiver_of p.item)) ∙ h
