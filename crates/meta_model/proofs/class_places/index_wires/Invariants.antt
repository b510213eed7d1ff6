use Rattle.meta_model.specs.Indexes.{IndexesFirst}
use Rattle.meta_model.proofs.class_places.index_wires.Given as goal

-- the index is that of the items so far
abbrev pub invariant-loop-wire : goal.invariant-loop-wire
invariant-loop-wire l = IndexesFirst (λ w. w.sender) l.wires l.classes l.wire-index l.index
