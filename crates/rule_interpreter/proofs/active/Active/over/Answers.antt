use Rattle.rule_interpreter.proofs.Frames.{counted-over, shown-over}
use Rattle.rule_interpreter.proofs.active.Active.over.Goals as goal

pub invariant_of-result : goal.invariant_of-result
invariant_of-result c = counted-over _ c.args.body _ c.self.invariant

pub returns : goal.returns
returns c = shown-over c.args.body _ c.self.view_is
