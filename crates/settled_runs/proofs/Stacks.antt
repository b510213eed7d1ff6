-- A stack is no deeper than the bound, and the step for each object that was made (docs/settling-proof.md, "The depth").
use Rattle.std.proofs.Common.{◌≡◌, ℕ, ◌+◌, ◌*◌, ◌≤◌, List, [], ◌∷◌, length, Option, refl, arith}
use Rattle.meta_model.specs.Loaded.{Loaded}
use Rattle.object_tree.specs.declared.object.Object.{Object}
use Rattle.machine_state.specs.State.{State, Activation}
use Rattle.settling.specs.{declared.certificate.SettlingCertificate.{SettlingCertificate}, Levels.{StacksAreShallow}}
use Rattle.settled_runs.{specs.Levels.{Level, AreCosts, AreLevels}, proofs.Depth.{levels-shallow}, proofs.Invariant.{Stacked, Holds}}

module _ (p : Loaded) (cost : ℕ → ℕ) (classes : ℕ → Option ℕ) (objects : List Object) {certificate : SettlingCertificate} where
  -- the levels stand above one another
  pub levels-of : (stack : List Activation) (levels : List (Level certificate)) → Stacked p cost classes objects stack levels → AreLevels p cost classes objects levels
  levels-of [] [] st = tt
  levels-of [] (level ∷ levels) st = absurd st
  levels-of (a ∷ stack) [] st = absurd st
  levels-of (a ∷ stack) (level ∷ levels) st = (st.1, st.2, levels-of stack levels st.3)

  -- there is one for each activation
  pub as-many : (stack : List Activation) (levels : List (Level certificate)) → Stacked p cost classes objects stack levels → length stack ≡ length levels
  as-many [] [] st = refl
  as-many [] (level ∷ levels) st = absurd st
  as-many (a ∷ stack) [] st = absurd st
  as-many (a ∷ stack) (level ∷ levels) st = let rest = as-many stack levels st.3 in omega (arith, rest)

-- so it isn't deep
pub no-deeper : {p : Loaded} {cost : ℕ → ℕ} {certificate : SettlingCertificate} {classes : ℕ → Option ℕ} {s : State} → StacksAreShallow → AreCosts p certificate cost → Holds p cost certificate classes s
    → length s.stack ≤ certificate.bound + certificate.step * length s.objects
no-deeper {p} {cost} {classes = classes} {s = s} shallow costs held =
    let many = as-many p cost classes s.objects s.stack held.levels held.stacked in
    let low = levels-shallow p cost classes s.objects costs (held.covered.known).inside shallow held.levels (levels-of p cost classes s.objects s.stack held.levels held.stacked) in
    omega (arith, many, low)
