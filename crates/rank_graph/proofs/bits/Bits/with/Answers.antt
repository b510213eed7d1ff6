use Rattle.std.proofs.Common.{eqb, refl, inl, inr, sym, arith}
use Rattle.std.proofs.lemmas.Nat.Bits.{bit_at_set_same, bit_at_set_other}
use Rattle.std.proofs.lemmas.Bool.{cases_eq, eq-eqb, ne_eqb, or_right}
use Rattle.std.specs.Int.{w128, bit_at}
use Rattle.rank_graph.specs.Bits.{has}
use Rattle.rank_graph.proofs.bits.Bits.with.Goals as goal

pub returns : goal.returns
unfolding has
returns c = λ n.
    elim (cases_eq n c.args.number) [
      | inl e ↦ let one = bit_at_set_same w128 c.args.self.bits c.args.number c.requires in rw e (rw one (sym (or_right (eqb (bit_at c.args.self.bits c.args.number) 1) (eqb c.args.number c.args.number) (eq-eqb c.args.number c.args.number refl))))
      | inr ne ↦ let other = bit_at_set_other w128 c.args.self.bits c.args.number c.requires n ne in rw (other, ne_eqb n c.args.number ne) (grind arith)
    ]
