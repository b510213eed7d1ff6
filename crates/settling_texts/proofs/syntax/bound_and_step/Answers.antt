use Rattle.settling_texts.proofs.Lines.{depth_found}
use Rattle.settling_texts.proofs.syntax.bound_and_step.Goals as goal

pub returns : goal.returns
returns c = depth_found c.in_ok-bound.ensures c.in_ok-step.ensures.reads
