use Rattle.std.proofs.Common.{◌≡◌, ◌≤◌, length, arith}
use Rattle.command_lines.proofs.Inputs.{ended_so, full}
use Rattle.command_lines.proofs.input.read_input.Goals as goal

pub returns-in-Ok-eq0-clause-input : goal.returns-in-Ok-eq0-clause-input
returns-in-Ok-eq0-clause-input g c =
    let few : length c.loop-chunk.input.items ≤ 67108865 = omega (arith, c.loop-chunk.input.ok.0, c.loop-chunk.invariant.1) in
    ended_so _ _ _ _ _ _ _ _ c.loop-chunk.invariant.0 (rw c.in-Ok-eq0.is at c.read_on.ensures.read) c.in-Ok-eq0.field-0-test few

pub returns-clause-input : goal.returns-clause-input
returns-clause-input g c =
    let whole : length c.loop-chunk.input.items ≡ 67108865 = omega (arith, c.loop-chunk.input.ok.0, c.loop-chunk.invariant.1, c.loop-chunk-test.false) in
    full _ _ _ _ c.loop-chunk.invariant.0 whole
