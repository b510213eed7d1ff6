-- What follows from some properties, found in the order of their numbers: readers that were found wait for their turn, and
-- the lowest number comes first. A reader waits once for each of its sources that was followed.
use Rattle.std.specs.Prelude.{◌≡◌, ℕ, ◌≤◌, ◌⊎◌, eqb, Bool, false, List, [], ◌∷◌, ◌++◌, All, Option, None, Some}
use Rattle.std.specs.BinaryHeap.{IsHeap, heap_items}
use Rattle.std.specs.List.{Contains}
use Rattle.std.specs.List.Sorted.{IsPermutation}
use Rattle.std.specs.Ordering.{nat_cmp, ordering_then}
use Rattle.std.specs.declared.cmp.Ordering.{Ordering}
use Rattle.std.specs.declared.cmp.Reverse.{Reverse}
use Rattle.binding_graph.specs.declared.place.Place.{Place}
use Rattle.binding_graph.specs.declared.binding.Binding.{Binding}
use Rattle.binding_graph.specs.declared.turns.Turns.{Turns}
use Rattle.binding_graph.specs.Places.{In, Distinct}
use Rattle.binding_graph.specs.Bindings.{Reads, ChainFrom}
use Rattle.binding_graph.specs.code.Lists.{place_at}
use Rattle.binding_graph.specs.code.Orders.{Ordered}

-- a number, and the numbers of the property that has it
abbrev pub Turn : Type 0
Turn = Reverse (ℕ × (ℕ × ℕ))

abbrev pub number_of : Turn → ℕ
number_of t = t.0.0

abbrev pub reader_of : Turn → Place
reader_of t = place_at t.0.1

-- the lower number is the greater turn
abbrev pub by_turn : Turn → Turn → Ordering
by_turn s t = ordering_then (nat_cmp t.0.0 s.0.0) (ordering_then (nat_cmp t.0.1.0 s.0.1.0) (nat_cmp t.0.1.1 s.0.1.1))

-- the property waits for its turn
abbrev pub Waits : List Turn → Place → Type 0
Waits ts q = (t : Turn) × Contains ts t × (reader_of t ≡ q)

-- ---- how they wait
abbrev pub AtLeast : ℕ → List Turn → Type 0
AtLeast n [] = Unit {0}
AtLeast n (t ∷ ts) = (n ≤ number_of t) × AtLeast n ts

abbrev pub AtMost : ℕ → List Turn → Type 0
AtMost n [] = Unit {0}
AtMost n (t ∷ ts) = (number_of t ≤ n) × AtMost n ts

-- none has a number below that of one before it
abbrev pub InTurn : List Turn → Type 0
InTurn [] = Unit {0}
InTurn (t ∷ ts) = AtLeast (number_of t) ts × InTurn ts

abbrev pub turns_in : Turns → List Turn
turns_in x = heap_items x.others ++ x.row.items

pub record AreTurns (x : Turns) : Type 0 where
  pub heap : IsHeap by_turn (heap_items x.others)
  pub row : InTurn x.row.items
  pub last : AtMost x.last x.row.items

-- this one is taken, and none that is left has a lower number
pub record IsNext (old new : List Turn) (t : Turn) : Type 0 where
  pub moved : IsPermutation old (t ∷ new)
  pub lowest : All (λ (s : Turn). number_of t ≤ number_of s) new

-- ---- the readers of a source
-- F binds the turn's property, which N gives the turn's number, and the binding reads the source
abbrev pub IsReader : (Place → Option Binding) → (Place → Option ℕ) → Place → Turn → Type 0
IsReader F N source t =
    (b : Binding) × (F (reader_of t) ≡ Some b) × Reads b source × (N (reader_of t) ≡ Some (number_of t))

-- the properties whose bindings by F read the source wait too, as far as these readers name them
pub record AddsReaders (F : Place → Option Binding) (N : Place → Option ℕ) (source : Place) (readers : List Place)
    (old new : List Turn) : Type 0 where
  pub kept : (t : Turn) → Contains old t → Contains new t
  pub only : All (λ (t : Turn). Contains old t ⊎ IsReader F N source t) new
  pub all : (q : Place) (b : Binding) → In q readers → F q ≡ Some b → Reads b source → Waits new q

-- ---- turn by turn
-- it is the turn that was taken last
abbrev pub is_turn : ℕ → Option ℕ → Bool
is_turn n None = false
is_turn n (Some last) = eqb last n

-- not below the turn that was taken last
abbrev pub IsFrom : Option ℕ → ℕ → Type 0
IsFrom None n = Unit {0}
IsFrom (Some last) n = last ≤ n

-- not above it
abbrev pub IsUpTo : Option ℕ → ℕ → Type 0
IsUpTo None n = ⊥
IsUpTo (Some last) n = n ≤ last

-- a turn that is to come: its property is one of those from which is followed, or what follows from them without their own
-- bindings, as G has it
abbrev pub IsDue : (Place → Option Binding) → (Place → Option ℕ) → List Place → Option ℕ → Turn → Type 0
IsDue G N from last t =
    (N (reader_of t) ≡ Some (number_of t)) × (In (reader_of t) from ⊎ ChainFrom G from (reader_of t))
    × IsFrom last (number_of t)

-- the turn of these was, which follow by G, and the readers by F of the followed ones were found
pub record IsFollowed (F G : Place → Option Binding) (N : Place → Option ℕ) (from followed found : List Place)
    (last : Option ℕ) (turns : List Turn) : Type 0 where
  pub due : All (IsDue G N from last) turns
  pub past : (q : Place) → In q found → (i : ℕ) × (N q ≡ Some i) × IsUpTo last i
  pub taken : (q : Place) (i : ℕ) → last ≡ Some i → N q ≡ Some i → In q found
  pub ordered : Ordered G found
  pub distinct : Distinct found
  pub reached : (q : Place) → In q found → ChainFrom G from q
  pub closed : (q m : Place) (b : Binding) → F q ≡ Some b → Reads b m → In m followed
      → In q from ⊎ (In q found ⊎ Waits turns q)
