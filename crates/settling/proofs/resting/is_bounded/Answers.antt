use Rattle.std.proofs.Common.{◌≡◌, ◌<◌, ◌≤◌, ℕ, List, length, slice_get, Some, ap, subst, arith}
use Rattle.settling.specs.declared.certificate.SettlingLine.{SettlingLine}
use Rattle.rank_check.proofs.Elements.{at_index, element_at, place_of}
use Rattle.settling.proofs.Passing.{first_more, first_all}
use Rattle.settling.proofs.resting.is_bounded.Goals as goal

pub returns-then-not-is_line_bounded : goal.returns-then-not-is_line_bounded
returns-then-not-is_line_bounded c = λ all.
    let at = subst (λ (ls : List SettlingLine). slice_get ls c.loop-line.line-index ≡ Some c.line-item.result) c.as_slice-line-items.ensures (at_index c.as_slice-line-items.result.now c.loop-line.line-index c.line-item.result c.loop-line-test.true c.line-item.is) in
    let there = element_at c.args.certificate.now.lines c.loop-line.line-index c.line-item.result at in
    let holds = c.is_line_bounded.ensures.1 (all.ranks c.line-item.result there, all.steps c.line-item.result there) in
    let fails = c.if-not-is_line_bounded.true in
    cc

pub loop-line-preserved : goal.loop-line-preserved
loop-line-preserved c =
    let at = subst (λ (ls : List SettlingLine). slice_get ls c.loop-line.line-index ≡ Some c.line-item.result) c.as_slice-line-items.ensures (at_index c.as_slice-line-items.result.now c.loop-line.line-index c.line-item.result c.loop-line-test.true c.line-item.is) in
    first_more (λ (k : ℕ) (line : SettlingLine). (line.rank < c.args.certificate.now.bound) × (line.step ≤ c.args.certificate.now.step)) c.args.certificate.now.lines c.loop-line.line-index c.line-item.result at
    (c.is_line_bounded.ensures.0 c.if-not-is_line_bounded.false) c.loop-line.invariant

pub returns : goal.returns
returns c =
    let count = ap (λ (ls : List SettlingLine). length ls) c.as_slice-line-items.ensures in
    let all =
    first_all (λ (k : ℕ) (line : SettlingLine). (line.rank < c.args.certificate.now.bound) × (line.step ≤ c.args.certificate.now.step)) c.args.certificate.now.lines c.loop-line.line-index
    (omega (arith, count, c.loop-line-test.false)) c.loop-line.invariant in
    record {
      ranks = λ line there. let k = place_of c.args.certificate.now.lines line there in (all k.0 line k.1).0;
      steps = λ line there. let k = place_of c.args.certificate.now.lines line there in (all k.0 line k.1).1;
      bound = omega (arith, c.if-certificate-gt-MOST_BOUND.false);
    }
