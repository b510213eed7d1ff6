use Rattle.meta_model.specs.code.Declared.{Joins}
use Rattle.meta_model.proofs.ClassPlaces.{Walks, left_of}
use Rattle.meta_model.proofs.meta.Meta.covers_by.Given as goal

-- no wire that was passed covers the connection
abbrev pub invariant-places : goal.invariant-places
invariant-places l = Walks l.self (λ w. w.sender) l.self.wires (Joins l.self l.from.sig.now l.to.class l.to.sig.now l.kind) l.class l.place

abbrev pub decreases-places : goal.decreases-places
decreases-places l = left_of l.place
