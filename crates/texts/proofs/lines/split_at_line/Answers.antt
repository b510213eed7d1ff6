use Rattle.std.proofs.Common.{◌≡◌, arith}
use Rattle.std.proofs.lemmas.Bool.Decides.{Decides-eqb, not_from_Decides}
use Rattle.std.proofs.lemmas.Slice.Eq.{slice_eq-Decides}
use Rattle.texts.proofs.Partings.{none_so_far, other_next, parted_here}
use Rattle.texts.proofs.lines.split_at_line.Goals as goal

pub loop-found-init : goal.loop-found-init
loop-found-init c = record { so_far = none_so_far c.args.line.now c.args.text.now; within = omega arith }

pub returns-then-eq : goal.returns-then-eq
returns-then-eq c =
    let same : c.in-Some.found.now ≡ c.args.line.now = (slice_eq-Decides Decides-eqb _ _ _ c.eq.ensures).0 c.if-eq.true in
    rw c.split_at.ensures.front (parted_here c.loop-found.invariant.so_far (rw same at c.in-Some.ensures.line))

pub loop-found-preserved : goal.loop-found-preserved
loop-found-preserved c = record {
  so_far = other_next c.loop-found.invariant.so_far c.in-Some.ensures.line (not_from_Decides _ (slice_eq-Decides Decides-eqb _ _ _ c.eq.ensures) c.if-eq.false);
  within = omega (arith, c.in-Some.ensures.shorter);
}
