use Rattle.std.proofs.Common.{◌≡◌, ℕ, ◌<◌, max, ◌||◌, eqb, ◌∙◌, ap, arith}
use Rattle.std.proofs.lemmas.Nat.Bits.{bit_at_or, bit_at-lt}
use Rattle.std.proofs.lemmas.Bool.Decides.{nat_tests}
use Rattle.std.specs.Int.{bit_at}
use Rattle.rank_graph.specs.Bits.{has}
use Rattle.rank_graph.proofs.bits.Bits.union.Goals as goal

one_of : (a b : ℕ) → a < 2 → b < 2 → eqb (max a b) 1 ≡ (eqb a 1 || eqb b 1)
one_of a b l m = grind (arith, nat_tests)

pub returns : goal.returns
unfolding has
returns c = λ n. ap (λ (x : ℕ). eqb x 1) (bit_at_or c.args.self.bits c.args.other.bits n) ∙ one_of (bit_at c.args.self.bits n) (bit_at c.args.other.bits n) (bit_at-lt c.args.self.bits n) (bit_at-lt c.args.other.bits n)
