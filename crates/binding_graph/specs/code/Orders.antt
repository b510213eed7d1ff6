-- Orders of evaluation, in which sources come before their readers: how the crate computes settled values. Of what public
-- calls say, only `MayInstall` speaks of one: a planned bind brings what it moves, in such an order.
use Rattle.std.specs.Prelude.{◌≡◌, ◌⊎◌, List, [], ◌∷◌, cond, Option, None, Some}
use Rattle.basic_types.specs.declared.value.Value.{Value}
use Rattle.binding_graph.specs.declared.place.Place.{Place}
use Rattle.binding_graph.specs.declared.binding.Binding.{Binding}
use Rattle.binding_graph.specs.Places.{same_place, In, Distinct}
use Rattle.binding_graph.specs.Bindings.{Reads, value_of, Chain, ChainFrom}

-- the binding of a property reads none of these
abbrev pub Free : (Place → Option Binding) → Place → List Place → Type 0
Free F p qs = (b : Binding) → F p ≡ Some b → (q : Place) → In q qs → Reads b q → ⊥

-- none reads itself or a later one
abbrev pub Ordered : (Place → Option Binding) → List Place → Type 0
Ordered F [] = Unit {0}
Ordered F (p ∷ ps) = Free F p (p ∷ ps) × Ordered F ps

abbrev pub ListsBound : (Place → Option Binding) → List Place → Type 0
ListsBound F ps = (p : Place) (b : Binding) → F p ≡ Some b → In p ps

-- an order of evaluation for these bindings; it may name properties that are bound no more
pub record IsOrder (F : Place → Option Binding) (order : List Place) : Type 0 where
  pub ordered : Ordered F order
  pub covers : ListsBound F order

-- each of these is bound
abbrev pub AreBound : (Place → Option Binding) → List Place → Type 0
AreBound F ps = (p : Place) → In p ps → (b : Binding) × (F p ≡ Some b)

-- ---- evaluating in an order
abbrev pub update : (Place → Option Value) → Place → Option Value → Place → Option Value
update e p v q = cond (same_place p q) v (e q)

abbrev pub given : Option Binding → Place → (Place → Option Value) → Place → Option Value
given None p e = e
given (Some b) p e = update e p (value_of b e)

-- a bound property is given its expression's value
abbrev pub evaluated : (Place → Option Binding) → Place → (Place → Option Value) → Place → Option Value
evaluated F p e = given (F p) p e

-- these properties are given their expressions' values, each in its turn
abbrev pub pass : (Place → Option Binding) → List Place → (Place → Option Value) → Place → Option Value
pass F [] e = e
pass F (p ∷ ps) e = pass F ps (evaluated F p e)

-- ---- what has to be evaluated
-- what chains lead to from one of these, each once, a source before its reader
pub record IsAffected (F : Place → Option Binding) (from affected : List Place) : Type 0 where
  pub ordered : Ordered F affected
  pub distinct : Distinct affected
  pub reached : (q : Place) → In q affected → ChainFrom F from q
  pub closed : (q m : Place) (b : Binding) → F q ≡ Some b → Reads b m → In m from ⊎ In m affected → In q affected

-- what has a new binding and all that chains lead to from it, each once, a source before its reader; the others read none
-- of them and are bound as they were
pub record IsLater (F G : Place → Option Binding) (t : Place) (later : List Place) : Type 0 where
  pub ordered : Ordered G later
  pub distinct : Distinct later
  pub here : In t later
  pub reached : (q : Place) → In q later → (t ≡ q) ⊎ Chain G t q
  pub others : (q : Place) (b : Binding) → G q ≡ Some b → (In q later → ⊥)
      → (F q ≡ Some b) × ((m : Place) → In m later → Reads b m → ⊥)

-- ---- a bind
-- one more binding, or another one of the same target
abbrev pub bound : (Place → Option Binding) → Place → Binding → Place → Option Binding
bound F t b p = cond (same_place t p) (Some b) (F p)
