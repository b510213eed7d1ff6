use Rattle.std.proofs.Common.{◌≡◌, List, [], ◌∷◌, length, refl, arith, rules}
use Rattle.basic_types.specs.declared.qtype.QType.{QType}
use Rattle.basic_types.specs.Types.{BeginsWith}
use Rattle.basic_types.proofs.qtype.types_begin_with.Goals as goal

-- no types are a prefix of any
BeginsWith-nil : (types left : List QType) → length left ≡ 0 → BeginsWith types left
BeginsWith-nil types [] e = (types, refl)
BeginsWith-nil types (x ∷ xs) e = absurd (omega (arith, e))

pub returns : goal.returns
returns c = (λ _. c.loop-kind.invariant.0 (BeginsWith-nil _ _ c.in_default.ensures.cases), λ _. search rules)
