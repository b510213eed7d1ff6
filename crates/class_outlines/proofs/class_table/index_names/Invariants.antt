use Rattle.std.proofs.Common.{◌≡◌, ℕ, List}
use Rattle.name_indexes.specs.NamePlaces.{place_in}
use Rattle.class_outlines.specs.declared.outline.Outline.{Outline}
use Rattle.name_indexes.proofs.Indexing.{IsPlaceBefore}
use Rattle.class_outlines.proofs.class_table.index_names.Given as goal

-- the index is that of the classes so far
abbrev pub invariant-loop-number : goal.invariant-loop-number
invariant-loop-number l = (name : List ℕ) → IsPlaceBefore (λ (o : Outline). o.name ≡ name) l.classes l.number (place_in l.index name)
