use Rattle.std.proofs.Common.{ap, eqb, ℕ}
use Rattle.std.proofs.lemmas.Nat.Bits.{shr_and_one}
use Rattle.rank_graph.specs.Bits.{has}
use Rattle.rank_graph.proofs.bits.Bits.contains.Goals as goal

pub returns : goal.returns
unfolding has
returns c = ap (λ (x : ℕ). eqb x 1) (shr_and_one c.args.self.bits c.args.number)
