-- Where the crate keeps the properties that changed.
use Rattle.std.specs.Prelude.{List, [], ◌∷◌}
use Rattle.binding_graph.specs.declared.place.Place.{Place}
use Rattle.prop_bindings.specs.declared.plans.changed_places.HeldPlaces.{HeldPlaces}
use Rattle.prop_bindings.specs.declared.plans.changed_places.HeldPlaces.TheVariants.{Nothing, One, Many}

abbrev pub places_held : HeldPlaces → List Place
places_held Nothing = []
places_held (One p) = p ∷ []
places_held (Many ps) = ps.items
