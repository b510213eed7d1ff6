-- The lines of a script, one after another, with their events counted.
use Rattle.std.proofs.Common.{◌≡◌, ◌≢◌, ap, refl, ℕ, ◌+◌, ◌<◌, List, [], ◌∷◌, ◌++◌, ◌⊎◌, inl, inr, arith}
use Rattle.texts.specs.Lines.{IsFirstLine, AreFirstLines}
use Rattle.texts.proofs.FirstLines.{one_more_line}
use Rattle.script_lang.specs.Reads.{IsEmptyLine}
use Rattle.explained_commands.specs.EventLines.{HaveEvents}

-- the lines up to what is left have so many events, and the one that is looked for isn't among them
pub record EventsSoFar (script : List ℕ) (number : ℕ) (left : List ℕ) (event : ℕ) : Type 0 where
  pub lines : List (List ℕ)
  pub lead : AreFirstLines script lines left
  pub counted : HaveEvents lines number
  pub below : (event ≡ 0) ⊎ (number < event)

empty_behind : (lines : List (List ℕ)) (line : List ℕ) (n : ℕ) → HaveEvents lines n → IsEmptyLine line → HaveEvents (lines ++ line ∷ []) n
empty_behind [] line n e h = inl (h, e)
empty_behind (l ∷ lines) line n (inl w) h = inl (w.0, empty_behind lines line n w.1 h)
empty_behind (l ∷ lines) line n (inr w) h = inr (w.0, w.1, w.2, empty_behind lines line w.0 w.3 h)

event_behind : (lines : List (List ℕ)) (line : List ℕ) (n : ℕ) → HaveEvents lines n → (¬ IsEmptyLine line) → HaveEvents (lines ++ line ∷ []) (n + 1)
event_behind [] line n e h = inr (0, h, ap (λ k. k + 1) e, refl)
event_behind (l ∷ lines) line n (inl w) h = inl (w.0, event_behind lines line n w.1 h)
event_behind (l ∷ lines) line n (inr w) h = inr (w.0 + 1, w.1, ap (λ k. k + 1) w.2, event_behind lines line w.0 w.3 h)

pub empty_passed : (script left line rest : List ℕ) (number event : ℕ) → EventsSoFar script number left event → IsFirstLine left line rest → IsEmptyLine line → EventsSoFar script number rest event
empty_passed script left line rest number event s f h = record {
  lines = s.lines ++ line ∷ [];
  lead = one_more_line script s.lines left line rest s.lead f;
  counted = empty_behind s.lines line number s.counted h;
  below = s.below;
}

pub event_passed : (script left line rest : List ℕ) (number event : ℕ) → EventsSoFar script number left event → IsFirstLine left line rest → (¬ IsEmptyLine line) → number + 1 ≢ event → EventsSoFar script (number + 1) rest event
event_passed script left line rest number event s f h other = record {
  lines = s.lines ++ line ∷ [];
  lead = one_more_line script s.lines left line rest s.lead f;
  counted = event_behind s.lines line number s.counted h;
  below = further s.below;
}
  where
    further : (event ≡ 0) ⊎ (number < event) → (event ≡ 0) ⊎ (number + 1 < event)
    further (inl e) = inl e
    further (inr h) = inr (omega arith)
