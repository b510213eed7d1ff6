-- What frames show.
use Rattle.std.proofs.Common.{◌≡◌, ℕ, ◌+◌, List, [], ◌∷◌, length, Option, sym, ap, ◌∙◌, arith}
use denote.Bor.{Bor}
use Rattle.rule_interpreter.specs.declared.active.Frame.{Frame}
use Rattle.rule_interpreter.specs.declared.active.Frame.TheVariants.{Nothing, Over, rolls-Nothing, rolls-Over}
use Rattle.rule_interpreter.specs.declared.active.Frame.TheFolds.{fold-roll-Frame}
use Rattle.rule_interpreter.specs.declared.active.Frame.TheOpen as frame
use Rattle.rule_interpreter.specs.code.Active.{layer_shows, frame_shows}

-- ---- frames

pub frame-nothing : frame_shows Nothing ≡ []
frame-nothing = ap frame_shows (sym rolls-Nothing) ∙ fold-roll-Frame (List (Option ℕ)) layer_shows frame.Nothing

pub frame-over : (body : Option ℕ) (below : Bor Frame) → frame_shows (Over body below) ≡ body ∷ frame_shows below.now
frame-over body below = ap frame_shows (sym (rolls-Over body below)) ∙ fold-roll-Frame (List (Option ℕ)) layer_shows (frame.Over body below)

pub ruleset equations = (frame-nothing, frame-over)

-- one more is counted
pub counted-over : (count : ℕ) (body : Option ℕ) (below : Bor Frame) → count ≡ length (frame_shows below.now) → count + 1 ≡ length (frame_shows (Over body below))
counted-over count body below is = let more = ap (λ (l : List (Option ℕ)). length l) (frame-over body below) in omega (arith, is, more)

-- .. and shown
pub shown-over : (body : Option ℕ) (below : Bor Frame) {shown : List (Option ℕ)} → frame_shows below.now ≡ shown → frame_shows (Over body below) ≡ body ∷ shown
shown-over body below is = frame-over body below ∙ ap (λ (l : List (Option ℕ)). body ∷ l) is
