-- Runs of bytes.
use Rattle.std.proofs.Common.{◌≡◌, ℕ, true, List, [], ◌∷◌, ◌++◌, refl}
use Rattle.std.specs.List.{AllByRecursion}
use Rattle.basic_types.specs.Tokens.{StopsBy}
use Rattle.texts.specs.Bytes.{belongs, IsRun}
use Rattle.texts.specs.declared.bytes.Run.{Run}

clash : (run : Run) (r : List ℕ) (x : ℕ) (xs : List ℕ) → StopsBy (belongs run) r → r ≡ x ∷ xs → belongs run x ≡ true → ⊥
clash run [] x xs stops e h = cc
clash run (y ∷ ys) x xs stops e h = let k : y ≡ x = cc in let m = rw k at stops in cc

-- the longest run is one
pub one_run : (run : Run) (bytes t u r s : List ℕ) → IsRun run bytes t r → IsRun run bytes u s → (t ≡ u) × (r ≡ s)
one_run run bytes t u r s h k = go bytes t u h.split k.split h.each k.each
  where
    go : (xs a b : List ℕ) → xs ≡ a ++ r → xs ≡ b ++ s → AllByRecursion (λ x. belongs run x ≡ true) a → AllByRecursion (λ x. belongs run x ≡ true) b → (a ≡ b) × (r ≡ s)
    go xs [] [] e f p q = (refl, cc)
    go xs (x ∷ a) [] e f p q = absurd (clash run s x (a ++ r) k.stops (cc) p.0)
    go xs [] (y ∷ b) e f p q = absurd (clash run r y (b ++ s) h.stops (cc) q.0)
    go xs (x ∷ a) (y ∷ b) e f p q =
        let m = go (a ++ r) a b refl (cc) p.1 q.1 in (cc, m.1)
