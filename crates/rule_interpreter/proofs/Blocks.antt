-- Blocks of statements, one before the other.
use Rattle.std.proofs.Common.{◌≡◌, List, [], ◌∷◌, ◌++◌, length, arith, refl, sym, ap, ◌∙◌, append_assoc, append-nil}
use denote.Bor.{Bor}
use Rattle.meta_model.specs.declared.object.Statement.{Statement}
use Rattle.rule_interpreter.specs.code.Remaining.{of_blocks}

-- the last block comes first
pub of-last : (blocks : List (Bor (List Statement))) (b : Bor (List Statement)) → of_blocks (blocks ++ b ∷ []) ≡ b.now ++ of_blocks blocks
of-last [] b = sym (append-nil b.now)
of-last (x ∷ xs) b = ap (λ (l : List Statement). l ++ x.now) (of-last xs b) ∙ append_assoc b.now (of_blocks xs) x.now

-- an empty block may be left out
pub of-empty : (block rest : List Statement) → length block ≡ 0 → rest ≡ block ++ rest
of-empty [] rest e = refl
of-empty (x ∷ block) rest e = absurd (omega (arith, e))
