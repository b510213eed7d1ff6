use Rattle.std.proofs.Common.{◌≡◌, ◌<◌, List, length, slice_get, Some, sym, ap, subst, below_more, arith}
use Rattle.std.proofs.lemmas.Option.{slice_get_within}
use Rattle.certificate_lang.specs.declared.certificate.Line.{Line}
use Rattle.rank_check.proofs.Elements.{at_index, same_index, place_of}
use Rattle.rank_check.proofs.ranks.loose_bound.Goals as goal

pub returns-then-line-certificate : goal.returns-then-line-certificate
returns-then-line-certificate c =
    let at = subst (λ (ls : List Line). slice_get ls c.loop-place.place ≡ Some c.line-item.result) c.as_slice-line-items.ensures (at_index c.as_slice-line-items.result.now c.loop-place.place c.line-item.result c.loop-place-test.true c.line-item.is) in
    record { line = c.line-item.result; stands = at; high = omega (arith, c.if-line-certificate.true) }

pub loop-place-preserved : goal.loop-place-preserved
loop-place-preserved c =
    below_more _ _ c.loop-place.invariant
    (λ x at.
    let here = subst (λ (ls : List Line). slice_get ls c.loop-place.place ≡ Some x) (sym c.as_slice-line-items.ensures) at in
    subst (λ (z : Line). z.rank < c.args.certificate.now.bound) (same_index c.as_slice-line-items.result.now c.loop-place.place c.line-item.result x c.loop-place-test.true c.line-item.is here)
    (omega (arith, c.if-line-certificate.false)))

pub returns : goal.returns
returns c = record {
  ranks = λ line stands.
      let at = place_of c.args.certificate.now.lines line stands in
      let low = slice_get_within c.args.certificate.now.lines at.0 line at.1 in
      let count = ap (λ (ls : List Line). length ls) c.as_slice-line-items.ensures in
      c.loop-place.invariant at.0 (omega (arith, low, count, c.loop-place-test.false)) line at.1;
  bound = omega (arith, c.if-certificate-gt-MOST_BOUND.false);
}
