-- The event loops with the items that wait in them, as plain lists (Qt 6, "Threads and QObjects": each thread has an event
-- loop of its own, in which the objects live that are served by it).
use Rattle.std.specs.Prelude.{◌≡◌, ℕ, zero, suc, ◌+◌, ◌≤◌, not, nat_lt, eqb, Bool, List, [], ◌∷◌, ◌++◌, map, filter, Option, Some, slice_get, codes, if◌then◌else◌}
use Rattle.std.specs.List.{flat_map, list_any}
use Rattle.std.specs.Option.{option_map}
pub use Rattle.basic_types.specs.Lists.{change}
use Rattle.event_loops.specs.declared.item.Item.{Item}
use Rattle.event_loops.specs.declared.item.Item.TheVariants.{Call, Deletion}
use Rattle.event_loops.specs.declared.item.Posted.{Posted}

-- a loop with its items, in the order in which they are delivered
pub record Loop : Type 0 where
  pub name : List ℕ
  pub items : List Posted

-- the loops in the order in which they were added, and how many items were ever posted
pub record Queues : Type 0 where
  pub loops : List Loop
  pub posted : ℕ

-- at first there is the loop `main`, and nothing was posted
abbrev pub start : Queues
start = record { loops = record { name = codes "main"; items = [] } ∷ []; posted = 0 }

-- the loop at a place has the name
abbrev pub HasName : List Loop → List ℕ → ℕ → Type 0
HasName loops name home = option_map (λ (l : Loop). l.name) (slice_get loops home) ≡ Some name

-- some loop has the name
abbrev pub IsTaken : List Loop → List ℕ → Type 0
IsTaken loops name = (home : ℕ) × HasName loops name home

-- the loop of a name: no loop before it has the name
pub record IsNamed (loops : List Loop) (name : List ℕ) (home : ℕ) : Type 0 where
  pub has : HasName loops name home
  pub first : (k : ℕ) → HasName loops name k → home ≤ k

-- the items of the loop at a place
abbrev pub items_at : List Loop → ℕ → List Posted
items_at [] home = []
items_at (l ∷ loops) zero = l.items
items_at (l ∷ loops) (suc home) = items_at loops home

-- the object that an item is for
abbrev pub receiver_of : Item → ℕ
receiver_of (Call object method arguments) = object
receiver_of (Deletion object) = object

abbrev pub is_for : ℕ → Item → Bool
is_for receiver item = eqb (receiver_of item) receiver

-- posted before the item of this number
abbrev pub is_before : ℕ → Posted → Bool
is_before number p = nat_lt p.number number

-- all but the first item that passes the test
abbrev pub without_first : (Posted → Bool) → List Posted → List Posted
without_first test [] = []
without_first test (p ∷ items) = if test p then items else p ∷ without_first test items

-- a loop with another list of items
abbrev pub with_items : (List Posted → List Posted) → Loop → Loop
with_items f l = record l { items = f l.items }

-- an item more, with the next number, in the loop at a place
abbrev pub posted_to : ℕ → Item → Queues → Queues
posted_to home item s = record {
  loops = change home (with_items (λ items. items ++ record { number = s.posted + 1; item = item } ∷ [])) s.loops;
  posted = s.posted + 1;
}

-- the first item that was posted before the one of this number leaves the loop at a place
abbrev pub taken_before : ℕ → ℕ → Queues → Queues
taken_before home number s = record s { loops = change home (with_items (without_first (is_before number))) s.loops }

-- the items for an object leave all loops
abbrev pub dropped : ℕ → Queues → Queues
dropped object s = record s { loops = map (with_items (filter (λ p. not (is_for object p.item)))) s.loops }

-- a loop more, with no items, which comes last
abbrev pub with_loop : List ℕ → Queues → Queues
with_loop name s = record s { loops = s.loops ++ record { name = name; items = [] } ∷ [] }

-- ---- objects that move to another loop
-- the item is for one of these objects
abbrev pub is_for_any : List ℕ → Posted → Bool
is_for_any objects p = list_any (λ o. is_for o p.item) objects

-- the items of all loops but the one at a place, loop by loop as these were added
abbrev pub items_elsewhere : ℕ → List Loop → List Posted
items_elsewhere home loops = flat_map (λ (l : Loop). l.items) (change home (with_items (λ items. [])) loops)

-- the items for these objects leave all loops but the one at a place, whose own stay where they are; there they come last, in
-- the order in which they stood, loop by loop
abbrev pub rehomed : List ℕ → ℕ → Queues → Queues
rehomed objects home s = record s {
  loops = change home (with_items (λ items. items_at s.loops home ++ filter (is_for_any objects) (items_elsewhere home s.loops)))
      (map (with_items (filter (λ p. not (is_for_any objects p)))) s.loops);
}

-- ---- parts of these, each as the code does it
-- the items of all loops
abbrev pub all_items : List Loop → List Posted
all_items loops = flat_map (λ (l : Loop). l.items) loops

-- a loop without the items that pass the test
abbrev pub without : (Posted → Bool) → Loop → Loop
without test l = with_items (filter (λ p. not (test p))) l

abbrev pub name_at : List Loop → ℕ → Option (List ℕ)
name_at loops home = option_map (λ (l : Loop). l.name) (slice_get loops home)

-- the next item, after so many were posted
abbrev pub next_item : ℕ → Item → Posted
next_item posted item = record { number = posted + 1; item = item }

-- a loop with an item more at its end, without the first item that was posted before the one of this number, and without
-- the items for an object, or for some objects
abbrev pub with_item : Posted → Loop → Loop
with_item p l = with_items (λ items. items ++ p ∷ []) l

abbrev pub without_first_before : ℕ → Loop → Loop
without_first_before number l = with_items (without_first (is_before number)) l

-- all but the items for an object
abbrev pub none_for : ℕ → List Posted → List Posted
none_for object items = filter (λ p. not (is_for object p.item)) items

abbrev pub without_object : ℕ → Loop → Loop
without_object object l = with_items (none_for object) l

abbrev pub without_objects : List ℕ → Loop → Loop
without_objects objects l = without (is_for_any objects) l
