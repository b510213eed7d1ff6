use Rattle.std.proofs.Common.{ℕ, List, ap, ◌∙◌}
use Rattle.class_sets.specs.Words.{marks_of}
use Rattle.class_sets.proofs.class_set.ClassSet.copy.Goals as goal

pub returns : goal.returns
returns c = ap (λ (ws : List ℕ). marks_of ws c.self.inside.room) (c.in_ok-words.ensures ∙ c.as_slice.ensures) ∙ c.self.view_is
