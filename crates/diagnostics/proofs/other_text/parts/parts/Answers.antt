use Rattle.std.proofs.Common.{ℕ, List, Bor}
use Rattle.diagnostics.proofs.Parting.{part_next, parts_end}
use Rattle.diagnostics.proofs.other_text.parts.parts.Goals as goal

pub loop-part-preserved : goal.loop-part-preserved
loop-part-preserved c = record {
  front = part_next (λ (part : Bor (List ℕ)). part.now) c.args.line.now c.loop-part.parts c.push.new.self c.loop-part.left.now c.in-Some.part c.in-Some.rest.now
      c.loop-part.invariant.front c.in-Some.ensures.part.0 c.in-Some.ensures.part.1 c.in_ok-push.ensures.ok;
}

pub returns : goal.returns
returns c =
    parts_end (λ (part : Bor (List ℕ)). part.now) c.args.line.now c.loop-part.parts c.push-2.new.self c.loop-part.left
    c.loop-part.invariant.front c.in_default.ensures.part c.in_ok-push-2.ensures.ok
