use Rattle.std.proofs.Common.{ap, eqb, ℕ}
use Rattle.std.proofs.lemmas.Nat.Bits.{bit_at-zero}
use Rattle.rank_graph.specs.Bits.{has}
use Rattle.rank_graph.proofs.bits.Bits.none.Goals as goal

pub returns-clause-has : goal.returns-clause-has
unfolding has
returns-clause-has c = λ n. ap (λ (x : ℕ). eqb x 1) (bit_at-zero n)
