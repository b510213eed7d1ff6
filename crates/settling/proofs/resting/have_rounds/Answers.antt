use Rattle.std.proofs.Common.{ℕ, ◌<◌}
use Rattle.settling.specs.declared.spans.Span.{Span}
use Rattle.settling.proofs.Passing.{first_all}
use Rattle.settling.proofs.resting.have_rounds.Goals as goal

pub returns : goal.returns
returns c = first_all (λ (k : ℕ) (span : Span). 0 < span.round) c.args.spans.now c.loop-span.span-index c.loop-span-test.false c.loop-span.invariant
