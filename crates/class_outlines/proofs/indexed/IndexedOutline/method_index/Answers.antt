use Rattle.std.proofs.Common.{subst}
use Rattle.class_outlines.specs.declared.outline.Outline.{Outline}
use Rattle.class_outlines.specs.Indexed.{IndexesOutline}
use Rattle.class_outlines.proofs.indexed.IndexedOutline.method_index.Goals as goal

pub returns : goal.returns
returns c =
    let is = subst (λ (o : Outline). IndexesOutline o c.self.inside.methods c.self.inside.properties) c.self.view_is c.self.invariant in is.methods_by
