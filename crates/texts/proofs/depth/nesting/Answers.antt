use Rattle.std.proofs.Common.{refl, arith}
use Rattle.texts.specs.Nesting.{IsTooDeep}
use Rattle.texts.proofs.Counting.{counted_start, counted_next, counted_open, counted_together}
use Rattle.texts.proofs.depth.nesting.Goals as goal
use Rattle.texts.proofs.depth.nesting.Goals.{then-depth-gt-MOST_OPEN-via-then-depth-gt-MOST_OPEN, then-depth-gt-MOST_OPEN-via-else-depth-gt-MOST_OPEN+then-together-gt-MOST_TOGETHER}

pub loop-token-init : goal.loop-token-init
loop-token-init c = record { so_far = counted_start c.args.tokens.now; few = omega arith; short = omega arith }

pub returns-then-depth-gt-MOST_OPEN : goal.returns-then-depth-gt-MOST_OPEN
returns-then-depth-gt-MOST_OPEN c =
    let so_far = counted_next c.loop-token.token-index c.token-item.result c.open_after-depth.result c.together_after-together.result c.loop-token.invariant.so_far c.loop-token.invariant.few c.loop-token.invariant.short (omega arith) c.token-item.is c.open_after-depth.ensures c.together_after-together.ensures in
    let deep : IsTooDeep c.args.tokens.now =
    elim c.then-depth-gt-MOST_OPEN.branch [
      | then-depth-gt-MOST_OPEN-via-then-depth-gt-MOST_OPEN w ↦ counted_open so_far w.if-depth-gt-MOST_OPEN.true
      | then-depth-gt-MOST_OPEN-via-else-depth-gt-MOST_OPEN+then-together-gt-MOST_TOGETHER w ↦ counted_together so_far w.if-together-gt-MOST_TOGETHER.true
    ] in
    (λ _. deep, λ _. refl)

pub loop-token-preserved : goal.loop-token-preserved
loop-token-preserved c = record {
  so_far = counted_next c.loop-token.token-index c.token-item.result c.open_after-depth.result c.together_after-together.result c.loop-token.invariant.so_far c.loop-token.invariant.few c.loop-token.invariant.short (omega arith) c.token-item.is c.open_after-depth.ensures c.together_after-together.ensures;
  few = omega arith;
  short = omega arith;
}
