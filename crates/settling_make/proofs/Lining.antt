-- The lines of a certificate that is made, one after another.
use Rattle.std.proofs.{Common.{◌≡◌, ℕ, ◌+◌, Bool, List, [], ◌∷◌, ◌++◌, length, slice_get, sym, ap, ◌∙◌, subst, arith}, lemmas.List.{length_push}, lemmas.Option.{none-some, same_Some}}
use Rattle.meta_model.specs.Loaded.{Loaded}
use Rattle.effect_scan.specs.{declared.node.Node.{Node}, Nodes.{nodes_of, IsAt}}
use Rattle.settling.{specs.declared.certificate.SettlingLine.{SettlingLine}, proofs.Passing.{pushed_each}}
use Rattle.settling_make.specs.{Components.{number_of}, Fits.{at_place}, Lines.{IsLineFor, AreLinesTo}}

module _ (p : Loaded) (numbers ranks steps : List ℕ) (leads : ℕ → ℕ → Bool) where
  -- the line of the node of this number
  abbrev For : ℕ → SettlingLine → Type 0
  For n line = (x : Node) → IsAt (nodes_of p) x n → IsLineFor p leads (number_of numbers n) x (at_place ranks n) (at_place steps (number_of numbers n)) line

  pub lines_none : (lines : List SettlingLine) → lines ≡ [] → AreLinesTo p numbers ranks steps leads 0 lines
  lines_none lines empty = record {
    count = ap (λ (l : List SettlingLine). length l) empty;
    line = λ n x line at here. absurd (none-some line (sym (ap (λ (l : List SettlingLine). slice_get l n) empty) ∙ here));
  }

  pub lines_more : (end : ℕ) (x : Node) → IsAt (nodes_of p) x end → (lines after : List SettlingLine) (line : SettlingLine) → after ≡ lines ++ line ∷ [] → (k rank step : ℕ) → k ≡ number_of numbers end → rank ≡ at_place ranks end → step ≡ at_place steps k
      → IsLineFor p leads k x rank step line → AreLinesTo p numbers ranks steps leads end lines → AreLinesTo p numbers ranks steps leads (end + 1) after
  lines_more end x at lines after line pushed k rank step is_component is_rank is_step made to = record {
    count = let sum = length_push lines line in let e = ap (λ (l : List SettlingLine). length l) pushed in let c = to.count in omega (arith, sum, e, c);
    line = λ n y l at_y here. pushed_each For lines after line pushed (λ k m stands z at_z. to.line k z m at_z stands) last n l here y at_y;
  }
    where
      now : IsLineFor p leads (number_of numbers end) x (at_place ranks end) (at_place steps (number_of numbers end)) line
      now =
          subst (λ (j : ℕ). IsLineFor p leads j x (at_place ranks end) (at_place steps j) line) is_component
          (subst (λ (r : ℕ). IsLineFor p leads k x r (at_place steps k) line) is_rank (subst (λ (s : ℕ). IsLineFor p leads k x rank s line) is_step made))

      here : For end line
      here z at_z = subst (λ (w : Node). IsLineFor p leads (number_of numbers end) w (at_place ranks end) (at_place steps (number_of numbers end)) line) (same_Some x z (sym at ∙ at_z)) now

      last : For (length lines) line
      last = subst (λ (k : ℕ). For k line) (sym to.count) here

  pub lines_all : (end count : ℕ) (lines : List SettlingLine) → end ≡ count → AreLinesTo p numbers ranks steps leads end lines → AreLinesTo p numbers ranks steps leads count lines
  lines_all end count lines same to = subst (λ (n : ℕ). AreLinesTo p numbers ranks steps leads n lines) same to
