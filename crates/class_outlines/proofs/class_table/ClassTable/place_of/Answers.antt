use Rattle.std.proofs.Common.{List, subst}
use Rattle.class_outlines.specs.declared.outline.Outline.{Outline}
use Rattle.class_outlines.specs.Indexed.{IndexesNames}
use Rattle.class_outlines.proofs.class_table.ClassTable.place_of.Goals as goal

pub returns : goal.returns
returns c =
    let by = subst (λ (os : List Outline). IndexesNames os c.self.inside.names) c.self.view_is c.self.invariant in
    rw c.find.ensures (by c.args.name.now)
