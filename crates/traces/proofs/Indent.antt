-- Two blanks more.
use Rattle.std.proofs.Common.{◌≡◌, ◌∙◌, ap, ℕ, ◌+◌, ◌*◌, List, [], ◌∷◌, ◌++◌, append_assoc, arith}
use Rattle.std.specs.Prelude.{replicate}
use Rattle.std.proofs.lemmas.List.{replicate-append-replicate}

pub two_more : (shown : List ℕ) (k : ℕ) → (shown ++ replicate (2 * k) 32) ++ 32 ∷ 32 ∷ [] ≡ shown ++ replicate (2 * (k + 1)) 32
two_more shown k =
    let longer : 2 * k + 2 ≡ 2 * (k + 1) = omega arith in
    append_assoc shown (replicate (2 * k) 32) (32 ∷ 32 ∷ []) ∙ ap (λ bs. shown ++ bs) (replicate-append-replicate (2 * k) 2 32 ∙ ap (λ n. replicate n 32) longer)
