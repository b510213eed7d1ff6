use Rattle.meta_model.specs.Indexes.{IndexesFirst}
use Rattle.meta_model.proofs.class_places.index_owners.Given as goal

-- the index is that of the items so far
abbrev pub invariant-loop-declared : goal.invariant-loop-declared
invariant-loop-declared l = IndexesFirst (λ o. o.parent) l.owns l.classes l.declared-index l.index
