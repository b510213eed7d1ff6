use Rattle.std.proofs.Common.{◌≡◌, ℕ, suc, ◌<◌, Any, slice_get, Some}
use Rattle.syntax_trees.specs.declared.program.Property.{Property}
use Rattle.syntax_trees.specs.declared.program.Class.{Class}
use Rattle.class_outlines.specs.declared.outline.Outline.{Outline}
use Rattle.class_outlines.specs.Notifiers.{LacksNotifier}
use Rattle.meta_objects.proofs.notify.bad_notifier.Given as goal

-- none of the classes so far declares such a property
abbrev pub invariant-loop-number : goal.invariant-loop-number
invariant-loop-number l =
    (k : ℕ) → k < l.number → (class : Class) → slice_get l.program.classes k ≡ Some class → (o : Outline) → slice_get l.outlines (suc k) ≡ Some o
    → ¬ Any (λ (p : Property). LacksNotifier o p p.notify) class.properties
