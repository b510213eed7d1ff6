use Rattle.std.proofs.Common.{length, ◌≡◌, ◌<◌, get_or, false, arith, sym, ◌∙◌}
use Rattle.basic_types.proofs.Tokens.{run_of_length}
use Rattle.texts.specs.Bytes.{belongs}
use Rattle.texts.proofs.bytes.split_run.Goals as goal
use Rattle.texts.proofs.bytes.split_run.Goals.{then-loop-len-test+else-belongs, else-loop-len-test}

pub returns : goal.returns
returns c =
    let stop : c.loop-len.len < length c.args.bytes.now → belongs c.args.run (get_or c.args.bytes.now c.loop-len.len 0) ≡ false =
    elim c.loop-len-test.branch [
      | then-loop-len-test+else-belongs w ↦ λ h. sym w.belongs.ensures ∙ w.if-belongs.false
      | else-loop-len-test w ↦ λ h. absurd (omega arith)
    ] in
    rw (c.split_at.ensures.front, c.split_at.ensures.back) (run_of_length (belongs c.args.run) c.args.bytes.now c.loop-len.len c.loop-len.invariant.within c.loop-len.invariant.each stop)
