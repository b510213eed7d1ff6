-- What the code sees of a stack: of each activation, the object whose body it is (docs/machine.md, "The state").
use Rattle.std.specs.Prelude.{ℕ, List, [], ◌∷◌, Option, Bool}
use Rattle.std.specs.List.{list_any}
use Rattle.object_tree.specs.Forest.{is_the}
use Rattle.rule_interpreter.specs.declared.active.Frame.{Frame}
use Rattle.rule_interpreter.specs.declared.active.Frame.TheFolds.{fold-Frame}
use Rattle.rule_interpreter.specs.declared.active.Frame.TheOpen as frame

-- some of these is a body of the object (`has_body` of a stack that shows them)
abbrev pub shows_body : ℕ → List (Option ℕ) → Bool
shows_body o shown = list_any (is_the o) shown

-- what the code's frames show: one, with what those below it show, and all
abbrev pub layer_shows : frame.Frame-F (List (Option ℕ)) → List (Option ℕ)
layer_shows frame.Nothing = []
layer_shows (frame.Over body below) = body ∷ below.now

abbrev pub frame_shows : Frame → List (Option ℕ)
frame_shows = fold-Frame (List (Option ℕ)) layer_shows
