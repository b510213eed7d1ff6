-- When a set of numbers below 128 has a number.
use Rattle.std.specs.Prelude.{ℕ, Bool, ◌==◌}
use Rattle.std.specs.Int.{bit_at}
use Rattle.rank_graph.specs.declared.bits.Bits.{Bits}

unfoldable pub has : Bits → ℕ → Bool
has s c = bit_at s.bits c == 1
