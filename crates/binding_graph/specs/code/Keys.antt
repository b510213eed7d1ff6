-- How properties are looked up.
use Rattle.std.specs.Prelude.{ℕ, eqb, ◌&&◌, Bool}
use Rattle.binding_graph.specs.declared.place.Place.{Place}

-- the numbers by which a property is looked up
abbrev pub key_of : Place → ℕ × ℕ
key_of p = (p.object, p.property)

abbrev pub same_key : ℕ × ℕ → ℕ × ℕ → Bool
same_key a b = eqb a.0 b.0 && eqb a.1 b.1
