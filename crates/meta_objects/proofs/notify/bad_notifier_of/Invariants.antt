use Rattle.std.proofs.Common.{ℕ, ◌<◌}
use Rattle.syntax_trees.specs.declared.program.Property.{Property}
use Rattle.class_outlines.specs.Notifiers.{LacksNotifier}
use Rattle.name_indexes.specs.Places.{StandsAt}
use Rattle.meta_objects.proofs.notify.bad_notifier_of.Given as goal

abbrev pub invariant-loop-place : goal.invariant-loop-place
invariant-loop-place l = (k : ℕ) → k < l.place → ¬ StandsAt (λ (p : Property). LacksNotifier l.outline p p.notify) l.class.properties k
