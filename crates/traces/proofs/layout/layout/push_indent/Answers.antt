use Rattle.std.proofs.Common.{◌∙◌, ap, [], ◌∷◌, ◌++◌}
use Rattle.traces.proofs.Indent.{two_more}
use Rattle.traces.proofs.layout.layout.push_indent.Goals as goal

pub loop-preserved : goal.loop-preserved
loop-preserved c = c.in_ok-extend_from_slice.ensures.items ∙ ap (λ x. x ++ 32 ∷ 32 ∷ []) c.loop.invariant ∙ two_more c.args.shown.now.items c.loop.counter
