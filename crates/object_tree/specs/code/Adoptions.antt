-- The children that were adopted.
use Rattle.std.specs.Prelude.{ℕ, List, map}
use Rattle.object_tree.specs.declared.children.Adoption.{Adoption}

abbrev pub adopted : List Adoption → List ℕ
adopted adoptions = map (λ (a : Adoption). a.child) adoptions
