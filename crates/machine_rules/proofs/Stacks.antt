-- What stacks show.
use Rattle.std.proofs.Common.{◌≡◌, ℕ, List, [], ◌∷◌, ◌++◌, length, Option, refl, sym, ap, ◌∙◌, arith}
use Rattle.machine_state.specs.State.{Activation}
use Rattle.machine_rules.specs.Good.{whose, shows}

pub shows-append : (to below : List Activation) → shows (to ++ below) ≡ shows to ++ shows below
shows-append [] below = refl
shows-append (a ∷ to) below = ap (λ (l : List (Option ℕ)). whose a ∷ l) (shows-append to below)

shows-length : (stack : List Activation) → length stack ≡ length (shows stack)
shows-length [] = refl
shows-length (a ∷ stack) = let more = shows-length stack in omega (arith, more)

-- what a stack shows tells how high it is
pub high : {shown : List (Option ℕ)} (below : List Activation) → shows below ≡ shown → length below ≡ length shown
high below is = shows-length below ∙ ap (λ (l : List (Option ℕ)). length l) is

-- .. also where more stands over it
pub shows-over : {shown active : List (Option ℕ)} (to below : List Activation) → active ≡ shows to ++ shown → shows below ≡ shown → shows (to ++ below) ≡ active
shows-over to below over is = shows-append to below ∙ ap (λ (l : List (Option ℕ)). shows to ++ l) is ∙ sym over
