-- How many evaluations a write and a bind take (Qt 6, "Qt Bindable Properties": what doesn't depend on a change isn't
-- evaluated; docs/machine.md, "Bindings").
use Rattle.std.specs.Prelude.{◌≡◌, ◌⊎◌, ℕ, suc, List, [], ◌∷◌, length, Option, Some, slice_get}
use Rattle.basic_types.specs.declared.value.Value.{Value}
use Rattle.meta_model.specs.Loaded.{Loaded}
use Rattle.meta_model.specs.declared.site.MetaSite.{MetaSite}
use Rattle.object_tree.specs.declared.object.Object.{Object}
use Rattle.binding_graph.specs.declared.place.Place.{Place}
use Rattle.prop_bindings.specs.declared.plans.assignment.Assignment.{Assignment}
use Rattle.binding_graph.specs.declared.binding.Binding.{Binding}
use Rattle.binding_graph.specs.Places.{In, Distinct, property_of}
use Rattle.binding_graph.specs.Bindings.{binding_at, ChainFrom}
use Rattle.prop_bindings.specs.Changes.{HaveLasting, one, places_in}

-- the installed bindings, and how many evaluations the last write or bind took
pub record Kept : Type 0 where
  pub installed : List Binding
  pub evaluated : ℕ

abbrev pub nothing_kept : Kept
nothing_kept = record { installed = []; evaluated = 0 }

-- The count of the properties to which a chain of bindings leads from one of these, which are different ones; of those that
-- changed all but these are among them.
pub record CountsReached (F : Place → Option Binding) (first changed : List Place) (n : ℕ) : Type 0 where
  pub reached : List Place
  pub distinct : Distinct reached
  pub sound : (q : Place) → In q reached → ChainFrom F first q
  pub complete : (q : Place) → ChainFrom F first q → In q reached
  pub changes : (q : Place) → In q changed → In q first ⊎ In q reached
  pub count : length reached ≡ n

-- A group of writes evaluates each binding once to whose target a chain leads from one of the properties, and no other;
-- none at all where each property had already the value that is written last.
abbrev pub CountsGroup : (Place → Option Binding) → List Assignment → List Object → List Place → ℕ → Type 0
CountsGroup F writes objects changed n =
    (HaveLasting objects writes → (changed ≡ []) × (n ≡ 0))
    × ((¬ HaveLasting objects writes) → CountsReached F (places_in writes) changed n)

-- A write of one property evaluates what a group of this write alone does.
abbrev pub CountsWritten : (Place → Option Binding) → Place → Value → List Object → List Place → ℕ → Type 0
CountsWritten F at v objects changed n = CountsGroup F (one at v) objects changed n

-- A bind evaluates the new binding too.
pub record CountsFrom (F : Place → Option Binding) (target : Place) (changed : List Place) (n : ℕ) : Type 0 where
  pub others : ℕ
  pub one_more : n ≡ suc others
  pub counts : CountsReached F (target ∷ []) changed others

-- A bind by a site, to this target, evaluates the new binding too.
abbrev pub CountsBound : Loaded → ℕ → ℕ → List Binding → List Place → ℕ → Type 0
CountsBound p number target bs changed n = (site : MetaSite) → slice_get p.sites number ≡ Some site
    → CountsFrom (binding_at bs) (property_of target site.property) changed n
