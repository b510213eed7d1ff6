use Rattle.std.proofs.Common.{◌≡◌, ℕ, List}
use Rattle.name_indexes.specs.NamePlaces.{place_in}
use Rattle.meta_model.specs.declared.object.MetaObject.{MetaObject}
use Rattle.name_indexes.proofs.Indexing.{IsPlaceBefore}
use Rattle.meta_model.proofs.class_index.index_classes.Given as goal

-- the index is that of the items so far
abbrev pub invariant-loop-number : goal.invariant-loop-number
invariant-loop-number l = (name : List ℕ) → IsPlaceBefore (λ (class : MetaObject). class.name ≡ name) l.classes l.number (place_in l.index name)
