-- Which of the items in the rings wait.
use Rattle.std.specs.Prelude.{◌≡◌, ℕ, ◌≤◌, eqb, nat_lt, nat_le, ◌&&◌, Bool, true, false, List, [], ◌∷◌, map, filter, Option, Some, None, if◌then◌else◌, unwrap_or}
use Rattle.std.specs.List.{list_all}
use Rattle.indexmap.specs.IndexMap.{get}
use Rattle.event_loops.specs.declared.item.Posted.{Posted}
use Rattle.event_loops.specs.declared.marks.WaitMark.{WaitMark}
use Rattle.event_loops.specs.declared.marks.Marks.{Marks}
use Rattle.event_loops.specs.Queues.{Loop, receiver_of, items_at, with_items, is_before, without_first}

abbrev pub since_in : Option WaitMark → Option ℕ
since_in None = None
since_in (Some mark) = Some mark.since

-- an object's mark, by its number
abbrev pub mark_of : Marks → ℕ → Option WaitMark
mark_of marks object = get eqb marks.by_object object

-- the items for an object wait that were posted after so many, or none
abbrev pub since_of : Marks → ℕ → Option ℕ
since_of marks object = since_in (mark_of marks object)

abbrev pub is_above : Option ℕ → ℕ → Bool
is_above None number = false
is_above (Some since) number = nat_lt since number

-- the item waits
abbrev pub waits : (ℕ → Option ℕ) → Posted → Bool
waits since p = is_above (since (receiver_of p.item)) p.number

-- the item waits, and was posted before the one of this number
abbrev pub is_due : (ℕ → Option ℕ) → ℕ → Posted → Bool
is_due since number p = waits since p && is_before number p

-- the items that wait
abbrev pub waiting : (ℕ → Option ℕ) → List Posted → List Posted
waiting since items = filter (waits since) items

-- the loops with the items that wait
abbrev pub visible : (ℕ → Option ℕ) → List Loop → List Loop
visible since loops = map (with_items (waiting since)) loops

-- the items from the first on that waits
abbrev pub trimmed : (ℕ → Option ℕ) → List Posted → List Posted
trimmed since [] = []
trimmed since (p ∷ items) = if waits since p then p ∷ items else trimmed since items

-- the items from the first on that waits, once the first that waits and was posted before the one of this number has
-- left
abbrev pub taken_due : (ℕ → Option ℕ) → ℕ → List Posted → List Posted
taken_due since number items = trimmed since (without_first (is_due since number) items)

-- the same items wait
abbrev pub WaitAlike : (ℕ → Option ℕ) → (ℕ → Option ℕ) → Type 0
WaitAlike old new = (q : ℕ) → new q ≡ old q

-- .. where an object's mark was written
abbrev pub KeepsWaiting : ℕ → (ℕ → Option ℕ) → (ℕ → Option ℕ) → Type 0
KeepsWaiting object old new = (q : ℕ) → new q ≡ (if eqb object q then old object else old q)

-- an object has a mark, and what is posted after so many items waits for it
abbrev pub Notes : ℕ → ℕ → (ℕ → Option ℕ) → (ℕ → Option ℕ) → Type 0
Notes object posted old new = (q : ℕ) → new q ≡ (if eqb object q then Some (unwrap_or (old object) posted) else old q)

-- nothing waits for an object
abbrev pub Forgets : ℕ → (ℕ → Option ℕ) → (ℕ → Option ℕ) → Type 0
Forgets object old new = (q : ℕ) → new q ≡ (if eqb object q then None else old q)

-- each item in a ring, waiting or not, has at most this number
abbrev pub is_upto : ℕ → Posted → Bool
is_upto last p = nat_le p.number last

abbrev pub AreUpto : ℕ → List Loop → Type 0
AreUpto last loops = (home : ℕ) → list_all (is_upto last) (items_at loops home) ≡ true

-- each mark was made after at most so many items were posted
abbrev pub MarkedUpto : ℕ → (ℕ → Option ℕ) → Type 0
MarkedUpto last since = (q n : ℕ) → since q ≡ Some n → n ≤ last
