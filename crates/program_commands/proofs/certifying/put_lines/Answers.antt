use Rattle.std.proofs.Common.{◌∙◌}
use Rattle.program_commands.proofs.Lining.{lines_begun, lines_put}
use Rattle.program_commands.proofs.certifying.put_lines.Goals as goal

pub loop-number-init : goal.loop-number-init
loop-number-init g c = lines_begun _ c.args.meta.now c.args.solution.now _

pub loop-number-preserved : goal.loop-number-preserved
loop-number-preserved g c =
    lines_put _ c.args.meta.now c.args.solution.now c.nodes-node-items.result.now c.loop-number.number _ c.in_ok-line.line _ _ _ (c.nodes-node-items.ensures ∙ c.requires.scan.nodes) c.loop-number-test.true c.loop-number.invariant c.in_ok-line.ensures c.node_line.ensures
