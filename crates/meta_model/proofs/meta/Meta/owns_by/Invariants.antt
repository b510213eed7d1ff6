use Rattle.meta_model.specs.code.Declared.{MayOwn}
use Rattle.meta_model.proofs.ClassPlaces.{Walks, left_of}
use Rattle.meta_model.proofs.meta.Meta.owns_by.Given as goal

-- no declaration that was passed says so
abbrev pub invariant-places : goal.invariant-places
invariant-places l = Walks l.self (λ o. o.parent) l.self.owns (MayOwn l.self l.child) l.class l.place

abbrev pub decreases-places : goal.decreases-places
decreases-places l = left_of l.place
