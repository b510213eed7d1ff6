-- A list of objects against a list of classes, at the end of the classes.
use Rattle.std.proofs.Common.{◌≡◌, ◌↔◌, ℕ, ◌==◌, Bool, false, IsTrue, List, [], ◌∷◌, length, sym, ◌∙◌, arith}
use Rattle.std.specs.List.{AllZip}
use Rattle.std.proofs.lemmas.Bool.{false≢true}
use Rattle.std.proofs.lemmas.Bool.Decides.{nat_tests}

pub zip-ends : (R : ℕ → ℕ → Type 0) (xs cs rest left : List ℕ) (r : Bool) → (AllZip R xs cs ↔ AllZip R rest left) → length left ≡ 0 → r ≡ (length rest == 0) → IsTrue r ↔ AllZip R xs cs
zip-ends R xs cs [] [] r same none is = ((λ t. same.1 tt), (λ all. is))
zip-ends R xs cs (y ∷ ys) [] r same none is =
    let more : (length (y ∷ ys) == 0) ≡ false = grind (arith, nat_tests) in
    ((λ t. absurd (false≢true (sym (is ∙ more) ∙ t))), (λ all. absurd (same.0 all)))
zip-ends R xs cs rest (c ∷ left) r same none is = absurd (omega (arith, none))
