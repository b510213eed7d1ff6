use Rattle.std.proofs.Common.{◌≡◌, ℕ, ◌<◌, ◌^◌, true, false, eqb, inl, inr, sym, ap, ◌∙◌, arith}
use Rattle.std.proofs.lemmas.Nat.Bits.{bit_at-zero, bit_at-trailing_zeros}
use Rattle.std.proofs.lemmas.Bool.{cases_eq, eqb-true, eq-eqb}
use Rattle.std.specs.Int.{w128, bit_at}
use Rattle.rank_graph.specs.Bits.{has}
use Rattle.rank_graph.proofs.bits.Bits.is_none.Goals as goal

none_of_zero : (n k : ℕ) → n ≡ 0 → eqb (bit_at n k) 1 ≡ false
none_of_zero n k e = ap (λ (m : ℕ). eqb (bit_at m k) 1) e ∙ ap (λ (b : ℕ). eqb b 1) (bit_at-zero k)

zero_of_none : (n : ℕ) → n < 2 ^ 128 → ((k : ℕ) → k < 128 → eqb (bit_at n k) 1 ≡ false) → n ≡ 0
zero_of_none n fits none =
    elim (cases_eq n 0) [
      | inl e ↦ e
      | inr other ↦
          let lowest = bit_at-trailing_zeros w128 n (omega (arith, other)) fits in
          let on = eq-eqb _ 1 lowest.1 in
          let bad : false ≡ true = sym (none _ lowest.0) ∙ on in cc
    ]

pub returns : goal.returns
unfolding has
returns c = (λ e k low. none_of_zero c.args.self.bits k (eqb-true c.args.self.bits 0 e), λ none. eq-eqb c.args.self.bits 0 (zero_of_none c.args.self.bits (omega arith) none))
