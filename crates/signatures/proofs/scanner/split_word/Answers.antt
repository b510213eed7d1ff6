use Rattle.std.proofs.Common.{length, ◌≡◌, ◌<◌, get_or, false, arith, sym, ◌∙◌}
use Rattle.basic_types.specs.Name.{is_name_byte}
use Rattle.basic_types.proofs.Tokens.{run_of_length}
use Rattle.signatures.proofs.scanner.split_word.Goals as goal
use Rattle.signatures.proofs.scanner.split_word.Goals.{then-loop-len-test+else-is_name_byte, else-loop-len-test}

pub returns : goal.returns
returns c =
    let stop : c.loop-len.len < length c.args.bytes.now → is_name_byte (get_or c.args.bytes.now c.loop-len.len 0) ≡ false =
    elim c.loop-len-test.branch [
      | then-loop-len-test+else-is_name_byte w ↦ λ h. sym w.is_name_byte.ensures ∙ w.if-is_name_byte.false
      | else-loop-len-test w ↦ λ h. absurd (omega arith)
    ] in
    rw (c.split_at.ensures.front, c.split_at.ensures.back) (run_of_length is_name_byte c.args.bytes.now c.loop-len.len c.loop-len.invariant.within c.loop-len.invariant.each stop)
