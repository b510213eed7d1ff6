-- The one way to cut an input at its lines that are exactly `%%`.
use Rattle.std.proofs.Common.{◌≡◌, ℕ, List, [], ◌∷◌, sym, ap, ◌∙◌, subst}
use Rattle.texts.proofs.Partings.{one_parting, parted_or_not}
use Rattle.command_lines.specs.Cut.{IsUnparted, AreTexts}

-- there is one way at most
pub texts_once : (input : List ℕ) (xs ys : List (List ℕ)) → AreTexts input xs → AreTexts input ys → xs ≡ ys
texts_once input [] ys p q = absurd p
texts_once input (x ∷ []) [] p q = absurd q
texts_once input (x ∷ []) (y ∷ []) p q = ap (λ t. t ∷ []) (sym p.0 ∙ q.0)
texts_once input (x ∷ []) (y ∷ y' ∷ ys) p q = absurd (parted_or_not q.1 (subst IsUnparted (sym p.0) p.1))
texts_once input (x ∷ x' ∷ xs) [] p q = absurd q
texts_once input (x ∷ x' ∷ xs) (y ∷ []) p q = absurd (parted_or_not p.1 (subst IsUnparted (sym q.0) q.1))
texts_once input (x ∷ x' ∷ xs) (y ∷ y' ∷ ys) p q =
    let one = one_parting p.1 q.1 in
    let later : x' ∷ xs ≡ y' ∷ ys = texts_once p.0 (x' ∷ xs) (y' ∷ ys) p.2 (subst (λ r. AreTexts r (y' ∷ ys)) (sym one.1) q.2) in
    ap (λ t. t ∷ x' ∷ xs) one.0 ∙ ap (λ ts. y ∷ ts) later
