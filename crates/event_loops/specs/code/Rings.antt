-- What the names and rings of the loops show.
use Rattle.std.specs.Prelude.{ℕ, suc, not, Bool, List, [], ◌∷◌, ◌++◌, map, filter, Option, Some, None, option_map, if◌then◌else◌}
use Rattle.std.specs.declared.collections.VecDeque.{VecDeque}
use Rattle.indexmap.specs.IndexMap.{IndexMap}
use Rattle.event_loops.specs.declared.item.Posted.{Posted}
use Rattle.event_loops.specs.Queues.{Loop, receiver_of, items_at, items_elsewhere, with_items, change}

module _ {A : Type 0} where
  abbrev pub loop_of : List ℕ × VecDeque Posted A → Loop
  loop_of entry = record { name = entry.0; items = entry.1.items }

  abbrev pub loops_of : List (List ℕ × VecDeque Posted A) → List Loop
  loops_of entries = map loop_of entries

abbrev pub loops_in : {A S : Type 0} → IndexMap (List ℕ) (VecDeque Posted A) S → List Loop
loops_in queues = loops_of queues.entries

-- the place of the first item that passes the test
abbrev pub place_of_first : (Posted → Bool) → List Posted → Option ℕ
place_of_first test [] = None
place_of_first test (p ∷ items) = if test p then Some 0 else option_map (λ k. suc k) (place_of_first test items)

-- ---- items that move, where a test of objects says which
-- the item is for one of these objects
abbrev pub goes : (ℕ → Bool) → Posted → Bool
goes going p = going (receiver_of p.item)

abbrev pub those_going : (ℕ → Bool) → List Posted → List Posted
those_going going items = filter (goes going) items

abbrev pub those_staying : (ℕ → Bool) → List Posted → List Posted
those_staying going items = filter (λ p. not (goes going p)) items

-- a loop without those that go
abbrev pub without_going : (ℕ → Bool) → Loop → Loop
without_going going l = with_items (those_staying going) l

-- they leave all other rings and come last in the one at a place
abbrev pub gathered : (ℕ → Bool) → ℕ → List Loop → List Loop
gathered going home loops =
    change home (with_items (λ items. items_at loops home ++ those_going going (items_elsewhere home loops)))
    (map (without_going going) (change home (with_items (λ items. [])) loops))
