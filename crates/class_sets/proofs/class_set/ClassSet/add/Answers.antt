use Rattle.std.proofs.Common.{◌≡◌, ℕ, Bool, List, subst}
use Rattle.class_sets.specs.Marks.{Marks}
use Rattle.class_sets.specs.Words.{marks_of}
use Rattle.class_sets.proofs.Words.{word_inside, class_marked}
use Rattle.class_sets.proofs.class_set.ClassSet.add.Goals as goal

pub bounds-as_slice-class : goal.bounds-as_slice-class
bounds-as_slice-class c = rw c.as_slice.ensures (word_inside _ _ _ _ c.self.view_is c.self.invariant c.requires).1

pub set-requires : goal.set-requires
set-requires c = (word_inside _ _ _ _ c.self.view_is c.self.invariant c.requires).1

pub returns : goal.returns
returns c =
    let inside = word_inside _ _ _ _ c.self.view_is c.self.invariant c.requires in
    subst (λ (marks : List Bool). Marks (λ (d : ℕ). d ≡ c.args.class) marks (marks_of c.set.new.self c.self.inside.room)) c.self.view_is
    (class_marked c.self.inside.words c.set.new.self c.args.class inside.1 (rw c.as_slice.ensures at c.set.ensures) c.self.inside.room inside.0)
