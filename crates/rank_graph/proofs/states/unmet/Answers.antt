use Rattle.std.proofs.Common.{◌∙◌}
use Rattle.rank_graph.proofs.Sharing.{unmet_marks}
use Rattle.rank_graph.proofs.states.unmet.Goals as goal

pub returns : goal.returns
returns c = c.from_vec.ensures ∙ unmet_marks _ _ _ _ c.new-marks.ensures.items c.new-marks.ensures.len c.in_ok-resize.ensures.items
